-- What is true of the protocol, of its bytes and of its lines.
pub mod Conflict
pub mod Board
pub mod Poll
pub mod Preference
pub mod Acceptance
