pub mod Counting
pub mod Spacing
