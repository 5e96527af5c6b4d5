pub mod Choose
pub mod First
pub mod Options
