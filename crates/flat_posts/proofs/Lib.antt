pub mod FlatForms
pub mod ClassNumbers
pub mod Filled
pub mod Told
pub mod ClassBytes
pub mod ReadLists
pub mod OneMap
pub mod TurnLists
