pub mod Ranking
pub mod Remote
pub mod Rings
pub mod StartAreas
pub mod Stretches
