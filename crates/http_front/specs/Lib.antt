pub mod Limits
pub mod Bytes
pub mod Head
pub mod Stream
pub mod Connection
pub mod Replies
pub mod Sending
pub mod Pieces
