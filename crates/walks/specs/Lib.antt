pub mod Waypoints
pub mod Chosen
pub mod inner
