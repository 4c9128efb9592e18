pub mod FormKeys
pub mod ClassLists
