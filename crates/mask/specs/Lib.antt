pub mod Mask
pub mod Join
pub mod Named
pub mod Next
