-- What is true of the protocol, of its bytes and of its lines.
pub mod Generator
pub mod Made
pub mod First
pub mod Drill
pub mod Summary
