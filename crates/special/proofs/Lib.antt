pub mod Alike
pub mod Representatives
pub mod Laws
pub mod Beside
