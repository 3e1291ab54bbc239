pub mod Code
pub mod Pending
