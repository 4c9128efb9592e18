pub mod Boards
pub mod Answers
pub mod inner
