-- What the functions owe.
pub mod Blocks
pub mod Forms
pub mod Payload
pub mod Lined
pub mod Meaning
