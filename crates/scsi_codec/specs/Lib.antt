pub mod Lun
pub mod Requests
pub mod Responses
pub mod ControlQueue
pub mod EventQueue
