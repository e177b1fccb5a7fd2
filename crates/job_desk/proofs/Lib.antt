pub mod Places
pub mod Desks
