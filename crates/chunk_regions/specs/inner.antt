pub mod Spans
pub mod Joining
pub mod Moving
