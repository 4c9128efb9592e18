pub mod machine
pub mod Callers
pub mod Services
pub mod Steps
pub mod CallerSteps
pub mod Closings
pub mod inner
