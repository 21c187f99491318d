pub mod Fields
pub mod Spans
