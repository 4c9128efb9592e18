pub mod Runs
pub mod Machines
