pub mod First
pub mod Both
pub mod Zeros
pub mod Options
