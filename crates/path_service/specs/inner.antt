pub mod Zips
pub mod Opening
pub mod Channels
pub mod Intakes
pub mod Running
pub mod Holding
pub mod Closing
