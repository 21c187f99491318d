pub mod Headers
pub mod Causes
pub mod RoundTrip
pub mod Files
pub mod Versions
pub mod Replies
pub mod Examples
