pub mod Outcome
pub mod Question
pub mod Ways
