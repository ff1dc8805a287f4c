pub mod Demand3
pub mod Rooms
pub mod SpeedRules
