pub mod Parts
pub mod Trace
pub mod Inner
