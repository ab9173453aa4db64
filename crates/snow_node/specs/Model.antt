-- What is true of the protocol, of its bytes and of its lines.
pub mod Again
pub mod Closing
pub mod Hearing
pub mod Outcome
pub mod Placing
pub mod Querying
pub mod Running
pub mod Settling
pub mod Supplying
pub mod Telling
pub mod Turning
