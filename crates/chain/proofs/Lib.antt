pub mod Words
pub mod Column
pub mod Step
pub mod Link
pub mod Sets
pub mod Run
pub mod Exact
