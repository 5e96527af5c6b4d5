pub mod Accepts
pub mod Hashes
