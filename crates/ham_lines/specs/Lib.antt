pub mod Named
pub mod Reading
pub mod Clients
pub mod ClientReading
pub mod Texts
