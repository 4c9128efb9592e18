pub mod TestRasters
