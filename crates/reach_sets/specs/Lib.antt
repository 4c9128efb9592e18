pub mod Chains
pub mod RegionOrder
pub mod AreaNumbers
pub mod inner
