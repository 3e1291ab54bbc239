pub mod Moves
pub mod Ends
pub mod Seats
pub mod Lanes
pub mod Inner
