pub mod DroppedLaws
pub mod Laws
pub mod Roles
pub mod GuardLaws
