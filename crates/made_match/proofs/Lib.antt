pub mod Drawing
pub mod Naming
pub mod MapClasses
pub mod SmallJournals
