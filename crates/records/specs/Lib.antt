pub mod Version
pub mod Record
pub mod File
