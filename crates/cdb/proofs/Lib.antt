pub mod Deciding
pub mod Finding
pub mod Gaining
pub mod Mattering
pub mod Profiled
pub mod Rows
pub mod WideRows
