pub mod Meant
pub mod Premises
pub mod Apart
pub mod Shapes
pub mod Chains
pub mod Keeping
pub mod Finding
