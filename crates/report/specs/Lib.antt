pub mod Lines
pub mod Final
