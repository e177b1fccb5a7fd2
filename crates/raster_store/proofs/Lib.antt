pub mod Spreads
pub mod Totals
pub mod Contents
pub mod Distinct
pub mod Readings
pub mod Writes
mod Tiles
mod Written
mod Cells
pub mod Snapshots
mod Copied
mod ReadFor
pub mod Versions
pub mod Stored
