-- What is true of the protocol, of its bytes and of its lines.
pub mod Words
pub mod Names
pub mod Bytes
pub mod Events
pub mod Blocks
pub mod Lines
pub mod Made
pub mod Shown
