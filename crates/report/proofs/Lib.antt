mod Steps
pub mod Checked
