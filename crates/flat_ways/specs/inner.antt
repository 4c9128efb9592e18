pub mod Legs
pub mod Told
