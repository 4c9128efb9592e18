pub mod Turning
pub mod Keeping
pub mod Running
pub mod Pruned
pub mod Gathering
