mod Trips
mod RulesRefuse
mod Refused
mod Planned
mod Unplanned
mod Rooms
mod ReadOnce
mod Demands
