pub mod Knowledge
pub mod Promises
pub mod Made
pub mod Reply
