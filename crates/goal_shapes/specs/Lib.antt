pub mod Goals
pub mod Limits
pub mod Words
pub mod inner
