pub mod ByMap
pub mod JobLayout
pub mod Maps
pub mod Entries
