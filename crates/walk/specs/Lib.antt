pub mod Lowest
pub mod Walk
pub mod Pace
