pub mod Summing
pub mod Sharing
pub mod Joining
