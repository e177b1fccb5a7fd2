pub mod Limits
pub mod Entries
pub mod Index
pub mod Bytes
pub mod Moves
