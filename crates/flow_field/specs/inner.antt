pub mod Marks
pub mod Spreads
pub mod Ways
