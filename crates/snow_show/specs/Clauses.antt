-- What the functions owe.
pub mod Putting
