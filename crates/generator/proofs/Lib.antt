pub mod Taken
pub mod Replies
pub mod Existence
pub mod Demand
pub mod Normalised
