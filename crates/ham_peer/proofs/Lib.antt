pub mod Each
pub mod Delivered
pub mod Collected
