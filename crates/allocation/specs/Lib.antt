pub mod Rankings
pub mod Precedence
pub mod Places
pub mod Shares
pub mod Joint
pub mod Kinds
pub mod Layers
