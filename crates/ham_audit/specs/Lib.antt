pub mod Records
pub mod Order
pub mod Faults
pub mod Claims
pub mod Indexed
pub mod Passing
pub mod Lateness
pub mod FaultTexts
