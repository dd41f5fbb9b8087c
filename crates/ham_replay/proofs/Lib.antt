pub mod Faithful
pub mod Playing
pub mod Answering
pub mod Planned
