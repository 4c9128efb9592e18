pub mod Grids
pub mod Patches
pub mod inner
