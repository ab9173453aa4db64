-- What is true of the protocol, of its bytes and of its lines.
pub mod Ancestry
pub mod Identifier
pub mod Numbers
pub mod Votes
