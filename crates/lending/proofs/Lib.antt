pub mod Again
pub mod Steps
pub mod Borrowed
