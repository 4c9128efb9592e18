pub mod Standing
pub mod Touching
pub mod RefusalTexts
pub mod inner
