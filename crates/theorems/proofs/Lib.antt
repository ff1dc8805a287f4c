mod NotEmpty
mod Outside
mod OutsideValid
pub mod Demand3
pub mod Demand3Rooms
mod Again
mod Demand3Instance
mod Demand3Needed
mod SpeedRules
mod Added
mod Rooms
mod Testers
mod Promised
mod TestersInstance
mod NotTrue
