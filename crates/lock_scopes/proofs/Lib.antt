pub mod Chains
pub mod Counting
pub mod Crossing
pub mod Joining
pub mod Weights
