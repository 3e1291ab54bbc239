-- No public clause of the device, of its hosts or of the library for C, and no law, rests on these.
pub mod Fetching
pub mod Taking
pub mod EventQueue
pub mod Outcomes
pub mod Parts
pub mod Units
pub mod Resizing
pub mod Serving
pub mod InMemory
pub mod EventsInMemory
pub mod ServingInMemory
pub mod Stored
