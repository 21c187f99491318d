pub mod Rounding
pub mod Dropped
pub mod Width
pub mod Sticky
pub mod Outcome
