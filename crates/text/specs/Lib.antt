pub mod Format
pub mod Items
pub mod Tokens
pub mod Closing
pub mod Staged
pub mod Pages
pub mod Writes
pub mod Places
