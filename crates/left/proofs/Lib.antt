pub mod Laws
pub mod Stepping
pub mod Halves
