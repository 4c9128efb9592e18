pub mod CallerLists
pub mod JobAnswers
pub mod Keeping
pub mod OneRun
pub mod Settling
pub mod Reaching
pub mod Arriving
