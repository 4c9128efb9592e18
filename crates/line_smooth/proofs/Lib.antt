pub mod Spans
pub mod Sights
pub mod BestPlaces
pub mod Candidates
pub mod Followed
pub mod Legs
pub mod Offsets
