pub mod Ordering
pub mod Placed
pub mod Working
