pub mod Cause
pub mod Limits
pub mod Format
