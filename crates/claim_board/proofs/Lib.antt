pub mod Totals
pub mod Numbers
pub mod Keeps
pub mod Whole
pub mod Left
