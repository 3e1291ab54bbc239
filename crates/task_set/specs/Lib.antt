pub mod Tasks
pub mod Inner
