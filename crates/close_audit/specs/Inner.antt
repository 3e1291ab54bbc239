-- No public clause of the device, of its hosts or of the library for C, and no law, rests on these.
pub mod Belonging
pub mod Tallies
pub mod Opening
pub mod Sources
pub mod Unconfirmed
pub mod Finding
pub mod Prefix
