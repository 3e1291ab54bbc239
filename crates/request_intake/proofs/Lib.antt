pub mod Data
pub mod Found
pub mod Lengths
pub mod Medium
pub mod Numbers
