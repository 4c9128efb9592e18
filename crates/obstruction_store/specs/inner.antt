pub mod Held
pub mod Paged
