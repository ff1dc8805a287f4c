pub mod Numbers
pub mod Told
pub mod Rows
pub mod Runs
pub mod Records
pub mod FieldPlaces
