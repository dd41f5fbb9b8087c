pub mod Steps
pub mod Lined
pub mod Fitting
pub mod Accepted
