pub mod Commands
pub mod WrongWords
pub mod Words
pub mod Output
pub mod Serving
pub mod Reasons
pub mod Runs
pub mod inner
