pub mod Pages
pub mod Numbers
pub mod Lines
pub mod Fits
pub mod One
pub mod Sample
