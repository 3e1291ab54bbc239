pub mod Crew
pub mod Extent
pub mod Fetches
pub mod Ledgers
pub mod Times
pub mod Resetting
pub mod Resizing
pub mod Inner
