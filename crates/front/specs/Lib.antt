pub mod Reading
pub mod ClockLine
pub mod Walked
