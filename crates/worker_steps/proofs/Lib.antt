pub mod Crossing
pub mod Tallying
