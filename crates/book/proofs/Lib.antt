pub mod Placed
pub mod Hourly
