pub mod ContentLaws
pub mod LastTouch
pub mod Matching
pub mod Amounts
mod Touching
pub mod Ascending
