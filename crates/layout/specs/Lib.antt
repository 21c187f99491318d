pub mod Layout
pub mod Fields
