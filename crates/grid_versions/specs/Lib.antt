pub mod Fitting
pub mod Passing
pub mod Editing
pub mod Chunks
pub mod Versions
pub mod inner
