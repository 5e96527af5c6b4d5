pub mod Paces
pub mod States
