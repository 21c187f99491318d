pub mod Left
pub mod First
pub mod Narrower
