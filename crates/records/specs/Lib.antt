pub mod Standing
pub mod Faults
