pub mod Writing
pub mod Stopping
pub mod Works
pub mod Begun
pub mod Sessions
pub mod WholeScripts
pub mod WordPlaces
