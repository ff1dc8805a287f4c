mod Trail
mod SumsBack
mod Runs
mod Ordered
pub mod Merged
