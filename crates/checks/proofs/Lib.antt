pub mod Places
mod Left
mod SoFar
mod ColumnsSoFar
pub mod Exactly
mod Unique
