pub mod Waits
pub mod Promises
pub mod Stage
pub mod ChainSums
