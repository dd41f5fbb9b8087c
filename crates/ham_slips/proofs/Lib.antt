pub mod Checks
pub mod Showing
