pub mod Below
pub mod Rows
pub mod Numbers
pub mod Finites
pub mod LikeSigns
