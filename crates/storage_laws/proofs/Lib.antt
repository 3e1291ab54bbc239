pub mod Lasting
pub mod Answered
