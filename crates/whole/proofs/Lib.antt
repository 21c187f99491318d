pub mod Exact
pub mod Ways
pub mod Roles
pub mod Walking
pub mod Choosing
pub mod Taken
pub mod Replies
pub mod Sum
