pub mod Codes
pub mod Coded
