pub mod Ranges
pub mod Decimal
pub mod DecimalBack
pub mod LineText
pub mod Put
pub mod Parted
mod Parts
pub mod PartPlaces
pub mod Letters
pub mod LineNumbers
pub mod Lines
pub mod Stopped
pub mod Accepted
mod Written
pub mod Trips
pub mod Readings
pub mod BudgetBeside
pub mod Longest
pub mod Tables
