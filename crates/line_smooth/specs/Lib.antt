pub mod Segments
pub mod Smoothed
pub mod inner
