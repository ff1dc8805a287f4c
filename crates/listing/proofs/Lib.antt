mod RowsStored
mod Orders
mod Unplanned
mod PlanTexts
mod Told
pub mod LongestListing
pub mod Unique
