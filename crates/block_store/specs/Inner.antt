-- No public clause of the device, of its hosts or of the library for C, and no law, rests on these.
pub mod Drafts
pub mod Kept
pub mod Padding
pub mod Pages
pub mod Tables
pub mod Whole
pub mod Hosted
