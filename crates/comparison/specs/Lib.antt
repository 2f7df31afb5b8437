pub mod Comparison
pub mod Places
