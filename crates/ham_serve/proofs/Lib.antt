pub mod Ends
pub mod Recording
pub mod Talks
pub mod Telling
pub mod Heard
