pub mod Lines
pub mod Runs
pub mod Changes
pub mod Reading
pub mod StopLines
pub mod Tracks
pub mod Spans
