pub mod Forms
pub mod Classes
