pub mod Bounds
pub mod Marking
pub mod Gentle
pub mod Spanning
