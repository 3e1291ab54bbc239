pub mod Before
pub mod Distinct
pub mod Entering
pub mod Lists
