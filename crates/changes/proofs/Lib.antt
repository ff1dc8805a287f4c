pub mod Merging
pub mod Walk
pub mod Trials
pub mod Cycles
pub mod OfTurns
