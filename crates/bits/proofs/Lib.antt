pub mod Laws
pub mod Logic
pub mod Division
