pub mod Agree
pub mod Carry
pub mod Borrow
pub mod Some
pub mod Reach
pub mod Product
pub mod Resumed
