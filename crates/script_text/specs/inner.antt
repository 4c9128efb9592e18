pub mod Blocks
pub mod Judging
pub mod LineValues
pub mod Pieces
pub mod Plain
