pub mod Settings
pub mod Tables
pub mod Words
pub mod Work
pub mod Ready
pub mod Sends
pub mod Refusals
pub mod Turns
