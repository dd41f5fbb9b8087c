pub mod Drains
pub mod Cores
pub mod Replies
pub mod Histories
pub mod Closed
pub mod Laws
