pub mod Functions
pub mod Heads
pub mod Numbers
pub mod Rounds
