pub mod FieldBits
pub mod Keeping
pub mod Runs
