pub mod Changes
pub mod Others
pub mod Own
pub mod Transport
pub mod Instance
pub mod Pairs
