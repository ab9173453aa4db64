pub mod Cases
pub mod Counting
pub mod Holding
pub mod Indexed
pub mod Linked
pub mod Missing
mod Needed
pub mod Progress
pub mod Renewed
pub mod Storing
mod Straying
mod Walking
pub mod Whole
