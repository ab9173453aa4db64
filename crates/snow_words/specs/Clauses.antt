-- What the functions owe.
pub mod Making
pub mod Cutting
pub mod Numbers
pub mod Listing
