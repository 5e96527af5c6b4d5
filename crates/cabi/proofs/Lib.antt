pub mod Codes
pub mod Small
pub mod One
