pub mod Documents
pub mod Arrays
pub mod Least
