pub mod Steps
pub mod Answers
pub mod Making
pub mod Depth
pub mod Growing
pub mod Carried
