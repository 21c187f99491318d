pub mod Asked
pub mod Special
