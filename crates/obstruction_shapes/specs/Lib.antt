pub mod Shapes
pub mod Blocking
