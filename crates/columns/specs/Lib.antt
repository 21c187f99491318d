pub mod Carry
pub mod Column
pub mod Machine
pub mod Product
pub mod Walk
