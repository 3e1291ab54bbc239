-- No public clause of the device, of its hosts or of the library for C, and no law, rests on these.
pub mod Kept
pub mod Off
pub mod Aside
pub mod Sound
pub mod Steps
pub mod Apart
pub mod Stages
pub mod Opening
pub mod Views
pub mod Cursors
