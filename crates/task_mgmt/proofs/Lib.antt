pub mod Places
pub mod Rising
pub mod Deciding
pub mod Visits
