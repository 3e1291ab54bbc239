pub mod Tallying
pub mod Inner
