pub mod Closest
pub mod Narrow
pub mod Pair
pub mod Existence
pub mod Fixing
pub mod Walk
pub mod NextBit
