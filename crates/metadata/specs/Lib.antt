pub mod Metadata
pub mod Parts
