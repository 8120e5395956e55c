pub mod Kinds
pub mod Lines
pub mod Day
pub mod Views
pub mod Loading
pub mod Sequence
pub mod Entered
pub mod Written
