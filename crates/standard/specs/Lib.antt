pub mod Fields
pub mod Representable
pub mod Rounds
pub mod Number
pub mod Sum
pub mod Ieee
pub mod Special
pub mod Standard
