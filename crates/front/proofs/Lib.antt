mod Held
pub mod FirstLine
pub mod WholeText
mod GoesOn
pub mod LinesCounted
pub mod FieldsHeld
pub mod Unique
