pub mod Arguments
pub mod Breaking
pub mod Building
pub mod First
pub mod Made
pub mod MadeUp
pub mod Picked
pub mod Written
