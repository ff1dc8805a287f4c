mod SoFar
mod OneMore
mod Ends
pub mod Unique
