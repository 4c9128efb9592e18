pub mod Estimates
pub mod Gains
pub mod JumpStates
pub mod Questions
pub mod Within
pub mod inner
