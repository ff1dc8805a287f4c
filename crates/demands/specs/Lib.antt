pub mod Trips
pub mod Plans
pub mod Refused
pub mod Unplanned
pub mod ReadOnce
