pub mod Making
pub mod Question
