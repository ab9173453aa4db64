pub mod Begun
pub mod Closing
pub mod Counting
mod Examples
pub mod Placed
pub mod Replying
pub mod Waiting
