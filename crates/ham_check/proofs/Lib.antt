mod FirstFaultOr
mod FirstFault
mod Walked
pub mod Lists
mod Columns
mod Ids
mod NoFault
mod Soundness
