mod Answers
pub mod Unique
pub mod Together
pub mod Walks
pub mod Decisions
mod WrongPlanners
