pub mod Drafting
pub mod Opened
