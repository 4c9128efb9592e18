pub mod Reading
pub mod Filling
