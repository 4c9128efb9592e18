pub mod Choices
pub mod Rooms
pub mod Starts
pub mod Targets
pub mod inner
