-- What is true of the protocol, of its bytes and of its lines.
pub mod Words
