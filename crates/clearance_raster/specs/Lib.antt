pub mod Rasters
pub mod inner
