pub mod Pair
pub mod Signs
