-- No public clause of the device, of its hosts or of the library for C, and no law, rests on these.
pub mod Access
pub mod Appends
pub mod Kept
pub mod Places
pub mod Room
