mod RowsStored
mod OwnTurns
pub mod Listed
pub mod LongestRooms
