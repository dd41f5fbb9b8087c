pub mod Delivering
pub mod Collecting
