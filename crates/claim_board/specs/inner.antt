pub mod ClaimWord
