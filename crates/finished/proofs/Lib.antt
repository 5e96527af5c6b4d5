pub mod Owned
pub mod Finishes
