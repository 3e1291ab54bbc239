pub mod Conditions
pub mod Descriptor
pub mod Fixed
pub mod Format
pub mod Reading
