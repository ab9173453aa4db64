-- What the functions owe.
pub mod Columns
pub mod Maker
pub mod Texts
pub mod Whole
pub mod Streaming
