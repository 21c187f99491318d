pub mod Number
pub mod Numbers
