pub mod Plain
pub mod PlainFiles
pub mod Written
pub mod Reading
pub mod Drafts
pub mod Printing
