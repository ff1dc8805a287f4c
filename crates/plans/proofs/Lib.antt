mod Marks
mod Courses
mod Concluding
mod Taking
mod Noting
mod Running
pub mod Deciding
pub mod Leaving
