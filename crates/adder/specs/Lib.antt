pub mod Result
pub mod Row
pub mod Exact
pub mod Below
