pub mod Heard
pub mod Earlier
pub mod Cards
pub mod Boxes
pub mod Kept
