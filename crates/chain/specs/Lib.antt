pub mod Chain
pub mod Ways
pub mod Walk
