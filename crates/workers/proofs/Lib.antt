pub mod Crews
pub mod CrewCrossing
pub mod Crossing
pub mod Resetting
pub mod Resizing
pub mod Fetches
pub mod Openings
