pub mod Answers
pub mod Noted
pub mod Summaries
pub mod Writing
pub mod inner
