pub mod Area
pub mod Slope
pub mod Runs
