pub mod Kept
pub mod Clauses
