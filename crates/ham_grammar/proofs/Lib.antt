pub mod Spelling
pub mod Meanings
pub mod Readings
pub mod Computed
pub mod Printed
pub mod Skipped
