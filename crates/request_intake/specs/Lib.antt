pub mod Inventory
pub mod Answers
pub mod Direct
pub mod UnitRequest
pub mod Decision
pub mod Inner
