pub mod Codes
pub mod Sweeps
pub mod ReplyLists
pub mod EditedTurns
pub mod Searching
pub mod Asked
pub mod Wanted
