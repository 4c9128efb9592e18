pub mod AlikeClasses
pub mod BlockedColumns
pub mod BlockedRows
pub mod Rastering
pub mod Reaching
pub mod Sizes
