-- What is true of the protocol, of its bytes and of its lines.
pub mod Asking
pub mod Booting
pub mod Electing
pub mod Executing
pub mod Replying
