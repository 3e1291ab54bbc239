pub mod Port
pub mod Reported
pub mod Inner
