pub mod Again
pub mod Cutting
pub mod Fielded
pub mod Named
pub mod Shown
pub mod Spelled
pub mod Values
