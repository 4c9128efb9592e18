pub mod Lines
pub mod Held
pub mod Pushed
pub mod inner
