pub mod FaultTexts
pub mod Outcomes
pub mod Words
