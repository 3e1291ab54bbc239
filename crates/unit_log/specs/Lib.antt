pub mod Kept
pub mod Runs
pub mod Folding
pub mod Slots
pub mod Recorded
pub mod Inner
