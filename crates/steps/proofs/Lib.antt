pub mod Running
pub mod Deadlines
mod Ranks
pub mod Jobs
pub mod Walks
pub mod Rings
pub mod Turns
pub mod Entries
mod Trials
pub mod RunOrder
pub mod Course
pub mod Rooms
mod Totals
pub mod Faster
pub mod Qualified
pub mod Cheapest
pub mod Chosen
pub mod Speeds
pub mod Planned
pub mod Overtaken
pub mod Fates
pub mod Given
pub mod ChainRuns
