pub mod Class
pub mod Far
