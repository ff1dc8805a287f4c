pub mod Verdict
pub mod Left
