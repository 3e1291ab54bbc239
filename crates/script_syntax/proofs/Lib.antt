pub mod Copies
pub mod Digits
pub mod Totals
