pub mod Sums
pub mod Euclid
pub mod Running
pub mod Terraces
pub mod Piecewise
