pub mod Range
pub mod Fraction
pub mod Narrowing
