pub mod Tests
pub mod Making
