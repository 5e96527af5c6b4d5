pub mod Kinds
pub mod Forms
pub mod Shapes
