pub mod Opening
pub mod Own
pub mod Seeing
