pub mod Places
pub mod Slots
pub mod Bounds
pub mod Latest
pub mod Confirming
pub mod Marks
pub mod Rising
pub mod Tables
