pub mod Types
pub mod Runs
pub mod Bytes
pub mod Raw
pub mod Reading
pub mod Listing
pub mod Picking
