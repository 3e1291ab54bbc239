-- No public clause of the device, of its hosts or of the library for C, and no law, rests on these.
pub mod Kept
pub mod Runs
pub mod Folding
pub mod Slots
pub mod Recorded
pub mod LastTickets
