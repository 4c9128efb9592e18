pub mod Near
pub mod Runs
pub mod Turning
