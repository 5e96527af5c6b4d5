pub mod Deep
pub mod Grown
pub mod Exactly
