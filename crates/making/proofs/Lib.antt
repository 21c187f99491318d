pub mod Made
pub mod Zeros
pub mod Rounds
pub mod Making
pub mod Last
pub mod Asked
pub mod Reversed
