pub mod Parts
pub mod Counted
pub mod Whole
pub mod Sizes
pub mod Bounds
