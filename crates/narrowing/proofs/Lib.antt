pub mod Ranges
pub mod Sharing
pub mod Fractions
