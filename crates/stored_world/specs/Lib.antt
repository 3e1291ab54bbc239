pub mod Keeping
pub mod Inner
