pub mod Growing
pub mod LineTexts
pub mod Waypoints
pub mod NotesOfNothing
