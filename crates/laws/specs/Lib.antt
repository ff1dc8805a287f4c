pub mod Pairs
pub mod Overwritten
