pub mod Chains
pub mod Falling
pub mod Lists
pub mod Tables
