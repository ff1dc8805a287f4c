pub mod Promises
pub mod Courses
