pub mod First
pub mod Steps
