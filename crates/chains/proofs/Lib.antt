pub mod Walks
pub mod ChainSums
mod Rings
mod Remaining
mod Holding
pub mod Stage
