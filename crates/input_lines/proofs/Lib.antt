pub mod Newlines
pub mod LineLists
pub mod ToldLines
pub mod NeededReads
pub mod FirstLines
pub mod PushedLines
