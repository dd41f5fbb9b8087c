pub mod Scripts
pub mod ScriptTexts
pub mod Summaries
pub mod Scripted
pub mod Drafts
pub mod Made
