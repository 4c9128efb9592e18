pub mod Changes
pub mod Fitting
pub mod Holding
pub mod Listing
pub mod TouchingNumbers
pub mod Reaching
pub mod Refusing
pub mod Paging
