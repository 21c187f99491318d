pub mod Texts
pub mod Listings
pub mod Existence
