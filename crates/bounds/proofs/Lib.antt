pub mod Laws
pub mod Ranks
