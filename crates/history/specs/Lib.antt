pub mod Events
pub mod Told
pub mod Law
pub mod Runs
