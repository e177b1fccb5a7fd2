pub mod Csv
pub mod Places
