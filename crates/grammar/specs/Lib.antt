pub mod Put
pub mod FirstLine
pub mod PartPlaces
pub mod Longest
pub mod SoFar
