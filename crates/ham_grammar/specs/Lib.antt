pub mod Lines
pub mod Typed
pub mod Reading
pub mod Meaning
pub mod Computed
