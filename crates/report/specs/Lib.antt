pub mod Page
pub mod Written
pub mod Text
pub mod Promises
