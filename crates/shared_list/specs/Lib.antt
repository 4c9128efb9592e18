pub mod Changing
pub mod inner
