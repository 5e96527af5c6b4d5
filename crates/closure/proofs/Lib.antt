pub mod Depth
pub mod Folds
pub mod Marks
pub mod Grew
pub mod Passes
pub mod Sound
pub mod Exact
pub mod Starting
