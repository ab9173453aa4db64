pub mod Model
pub mod Laws
pub mod Kept
pub mod Clauses
