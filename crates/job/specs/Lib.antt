pub mod Dropped
pub mod Job
pub mod Role
pub mod Guards
