-- Definitions that only private contracts cite.
pub mod Following
pub mod KnownSets
pub mod Nearby
pub mod Numbered
pub mod Paged
pub mod Searched
pub mod Traced
pub mod Underway
