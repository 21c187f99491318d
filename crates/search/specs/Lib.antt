pub mod Choice
pub mod Walk
