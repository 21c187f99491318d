pub mod Laws
pub mod Roles
pub mod Normalised
