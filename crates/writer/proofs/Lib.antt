mod Lines
mod Answer
pub mod Unique
