pub mod Turns
pub mod Successors
pub mod Stops
pub mod inner
