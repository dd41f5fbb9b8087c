pub mod Deriving
pub mod Filling
pub mod Written
pub mod OneText
