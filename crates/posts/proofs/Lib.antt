pub mod PostCounts
