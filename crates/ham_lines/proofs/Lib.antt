pub mod Spelled
pub mod Meant
pub mod ClientReadings
