pub mod Refusals
pub mod inner
