-- Definitions that only private contracts cite.
pub mod Codes
pub mod Owned
pub mod PathFields
pub mod Runs
pub mod Smoothings
