pub mod Scripts
pub mod SavedMatches
pub mod ToldJournals
pub mod OpenedTexts
pub mod Outputs
pub mod AnswerLines
pub mod CellPoints
