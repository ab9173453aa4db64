pub mod Lists
pub mod Booleans
pub mod Places
mod Seats
mod Kept
