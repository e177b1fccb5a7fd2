pub mod Signatures
pub mod Bytes
pub mod Held
pub mod Reading
