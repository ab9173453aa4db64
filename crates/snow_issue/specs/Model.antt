-- What is true of the protocol, of its bytes and of its lines.
pub mod Gone
pub mod Lists
pub mod Offering
pub mod Settling
pub mod Bubbling
