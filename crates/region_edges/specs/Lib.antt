pub mod Edges
pub mod inner
