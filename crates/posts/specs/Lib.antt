pub mod Maps
pub mod Edits
pub mod RefusalTexts
pub mod Posts
pub mod Callers
