pub mod Faults
pub mod LookedUp
pub mod After
