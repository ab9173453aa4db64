-- What is true of the protocol, of its bytes and of its lines.
pub mod Chain
pub mod Fields
pub mod Plain
pub mod Tally
