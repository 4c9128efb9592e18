pub mod Queue
pub mod inner
