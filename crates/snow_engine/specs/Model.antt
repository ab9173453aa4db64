-- What is true of the protocol, of its bytes and of its lines.
pub mod Booting
pub mod Catching
pub mod Deciding
pub mod Node
pub mod Run
