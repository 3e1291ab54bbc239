-- No public clause of the device, of its hosts or of the library for C, and no law, rests on these.
pub mod Performing
pub mod Calls
pub mod Parts
pub mod Turns
pub mod Outcomes
pub mod Noting
pub mod Flushes
pub mod Fields
