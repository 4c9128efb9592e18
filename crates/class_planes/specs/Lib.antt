pub mod Planes
pub mod inner
