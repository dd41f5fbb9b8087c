pub mod Toml
pub mod KnownKeys
