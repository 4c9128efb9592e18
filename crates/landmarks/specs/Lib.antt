pub mod Landmarks
pub mod HalfTables
pub mod inner
pub mod Spans
