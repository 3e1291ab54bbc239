pub mod Blocks
pub mod Drafts
pub mod Kept
pub mod Pages
pub mod Tables
pub mod Storage
pub mod Progress
pub mod Inner
