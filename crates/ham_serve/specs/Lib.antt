pub mod Lines
pub mod Recorded
pub mod Texts
pub mod Talks
pub mod Rounds
pub mod Hearing
