mod Left
pub mod PutSoFar
pub mod LinesOfRows
mod TabLine
pub mod Rows
