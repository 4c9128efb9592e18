pub mod Labelling
pub mod inner
