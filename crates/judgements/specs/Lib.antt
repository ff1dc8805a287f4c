pub mod Changes
pub mod Promises
