pub mod Order
pub mod Passes
