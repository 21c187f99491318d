pub mod Significand
pub mod Tail
