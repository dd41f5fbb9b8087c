pub mod Breaking
pub mod Limits
pub mod Marking
pub mod Moves
pub mod Unmoved
pub mod Opening
pub mod Matched
