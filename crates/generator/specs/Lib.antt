pub mod Promise
pub mod Demand
