pub mod Flows
pub mod inner
