pub mod Columned
pub mod Lining
pub mod Gathered
pub mod Spliced
pub mod Taken
pub mod Streamed
