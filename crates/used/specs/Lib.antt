pub mod Marking
pub mod Promises
