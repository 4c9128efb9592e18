pub mod Counts
pub mod Faults
pub mod Passing
pub mod Memory
pub mod Adapters
