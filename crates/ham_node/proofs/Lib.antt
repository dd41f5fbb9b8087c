pub mod Beating
pub mod Hiding
