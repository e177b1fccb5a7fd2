pub mod Listed
pub mod Takes
pub mod Kept
pub mod Picks
mod Rows
mod Fitting
mod Parts
mod Sums
mod Changes
mod Sizes
mod Cells
mod Patched
mod Exchanged
mod Growth
