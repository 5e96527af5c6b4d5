pub mod Flags
pub mod Inverts
pub mod Links
pub mod Greetings
pub mod Seals
pub mod Shaped
pub mod Keyed
