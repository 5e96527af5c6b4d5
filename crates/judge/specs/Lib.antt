pub mod Judged
pub mod Faulted
pub mod Promises
pub mod Cases
pub mod Idle
pub mod Reply
