pub mod Kept
pub mod Places
pub mod Report
