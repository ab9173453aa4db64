pub mod Chains
mod Choosing
mod Counting
mod Distinct
mod Drawing
mod Examples
mod Guiding
mod Listing
mod Moves
pub mod Slots
pub mod Spelled
pub mod Walks
mod Weights
