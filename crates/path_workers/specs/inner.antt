pub mod Working
pub mod Placing
pub mod Ranking
