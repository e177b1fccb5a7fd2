pub mod Folds
pub mod Registers
pub mod Parts
pub mod FirstVariables
