pub mod States
pub mod Answers
pub mod Views
pub mod Readings
