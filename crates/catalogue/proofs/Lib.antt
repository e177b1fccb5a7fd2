pub mod Names
pub mod ByteCounts
pub mod Held
pub mod Sequences
pub mod Lists
pub mod Whole
