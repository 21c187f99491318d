pub mod Numbers
pub mod BySizes
