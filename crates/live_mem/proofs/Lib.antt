mod Appending
pub mod Claiming
pub mod Spans
pub mod Recording
pub mod Over
pub mod Latest
pub mod Keeping
pub mod Reading
pub mod Storing
pub mod Spare
