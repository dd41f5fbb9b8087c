pub mod Waits
pub mod Boxing
pub mod Kept
pub mod Marks
pub mod Doors
pub mod Each
