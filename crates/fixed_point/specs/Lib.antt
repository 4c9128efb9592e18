pub mod inner
pub mod Plane
pub mod Raw
pub mod Text
