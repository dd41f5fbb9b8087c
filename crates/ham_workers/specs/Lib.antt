pub mod Sums
pub mod RunEnds
