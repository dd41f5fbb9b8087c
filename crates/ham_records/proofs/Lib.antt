pub mod Words
pub mod Written
pub mod Lines
pub mod Understood
pub mod Textual
