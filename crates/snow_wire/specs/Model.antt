-- What is true of the protocol, of its bytes and of its lines.
pub mod Spelling
pub mod Reading
pub mod Frame
