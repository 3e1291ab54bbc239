pub mod Events
pub mod Halves
pub mod Inner
