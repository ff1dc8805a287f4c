pub mod Listed
pub mod ReadTables
