-- Definitions that only private contracts cite.
pub mod Codes
pub mod ChunkLists
pub mod Tables
pub mod Building
pub mod Tallying
pub mod Painting
pub mod Marking
pub mod Reaching
pub mod Reachers
pub mod Parts
pub mod Guiding
pub mod Changing
pub mod SameNumbers
pub mod Marks
pub mod ReachedParts
pub mod PassingLaws
pub mod Keeping
