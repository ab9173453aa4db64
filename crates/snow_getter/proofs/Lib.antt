mod Chained
pub mod Examples
mod Ordered
mod Permuted
