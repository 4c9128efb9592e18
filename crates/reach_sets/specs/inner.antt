pub mod RowStarts
pub mod Forests
pub mod EndMarks
pub mod Linked
pub mod Holding
