pub mod Complements
pub mod Part
pub mod Range
pub mod Significand
pub mod Tail
