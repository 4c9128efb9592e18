pub mod Buckets
pub mod Held
