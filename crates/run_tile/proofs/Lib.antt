pub mod Spelling
pub mod Values
pub mod Progress
pub mod Pushes
pub mod RawTiles
pub mod Picks
pub mod Lists
pub mod ShortValues
