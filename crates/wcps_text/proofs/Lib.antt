pub mod Views
pub mod Bytes
pub mod Fronts
pub mod Steps
pub mod Ranks
pub mod Lexemes
