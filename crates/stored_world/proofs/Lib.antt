pub mod Keeping
pub mod Hosting
pub mod Fresh
pub mod Taken
pub mod Asked
