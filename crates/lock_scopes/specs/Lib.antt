pub mod Acts
pub mod Fetches
pub mod Joined
pub mod Ledgers
pub mod Lending
pub mod Memory
pub mod Inner
