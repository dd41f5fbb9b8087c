pub mod NodeSpelling
pub mod Noded
