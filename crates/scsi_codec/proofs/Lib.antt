pub mod Units
pub mod Readings
pub mod Written
