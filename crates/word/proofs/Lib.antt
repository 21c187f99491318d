pub mod Bounds
pub mod Canonical
pub mod Fields
