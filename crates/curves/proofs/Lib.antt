pub mod Ladders
pub mod Rules
pub mod Paired
pub mod Checked
pub mod Walked
