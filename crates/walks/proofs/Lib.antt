pub mod CellTests
pub mod Walking
pub mod Sweeping
pub mod Tracing
pub mod OneAnswer
