pub mod Order
pub mod ClassMasks
pub mod Aligning
pub mod Moved
pub mod Classes
pub mod Far
