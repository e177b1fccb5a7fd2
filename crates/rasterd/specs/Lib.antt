pub mod Commands
pub mod Lines
pub mod Places
pub mod Resuming
pub mod Sessions
pub mod Statuses
