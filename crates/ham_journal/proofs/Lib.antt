pub mod Drained
pub mod Parts
pub mod Stops
pub mod Takings
pub mod Closing
