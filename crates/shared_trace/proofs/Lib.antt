pub mod Events
pub mod Adding
pub mod Marks
pub mod Wholes
