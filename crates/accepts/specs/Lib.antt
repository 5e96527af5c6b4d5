pub mod Tests
pub mod Hashes
