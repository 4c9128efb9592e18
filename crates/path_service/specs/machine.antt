pub mod States
pub mod Table
pub mod Refusals
pub mod Effects
pub mod Facts
pub mod Arrival
