pub mod Makes
pub mod Knows
pub mod Seen
