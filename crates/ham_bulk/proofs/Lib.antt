pub mod Keeping
pub mod Taken
pub mod Lined
pub mod Scripted
pub mod After
pub mod Texts
