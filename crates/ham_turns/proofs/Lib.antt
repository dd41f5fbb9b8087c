mod Ranging
mod Tabling
