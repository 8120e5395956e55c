pub mod Endings
pub mod Described
pub mod Sofar
