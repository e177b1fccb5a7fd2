pub mod Between
pub mod Found
pub mod Merging
pub mod Exchanging
pub mod Changed
pub mod Codes
