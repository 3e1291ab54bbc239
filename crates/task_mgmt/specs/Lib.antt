pub mod Functions
pub mod Demands
pub mod Control
pub mod Visits
pub mod Inner
