pub mod After
pub mod Blocks
pub mod Examples
pub mod Good
pub mod Holding
pub mod Moves
pub mod Paths
pub mod Sums
