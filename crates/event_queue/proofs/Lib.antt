pub mod Crossing
pub mod Fitting
pub mod Telling
