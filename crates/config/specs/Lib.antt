pub mod Config
pub mod ConfigFault
