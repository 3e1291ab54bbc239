pub mod FirstPart
pub mod InPages
