pub mod Pairs
pub mod Roles
pub mod Walking
pub mod Choosing
