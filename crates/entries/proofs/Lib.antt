pub mod Searches
pub mod Parts
pub mod Sums
pub mod Moved
pub mod Entries
pub mod Found
