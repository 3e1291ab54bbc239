pub mod Calls
pub mod Endings
pub mod Serving
pub mod Disks
pub mod Changes
pub mod Fields
pub mod Inner
