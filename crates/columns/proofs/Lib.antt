pub mod Stored
pub mod Entries
pub mod Ranges
pub mod LookedUp
