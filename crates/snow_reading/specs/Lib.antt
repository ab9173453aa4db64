pub mod Model
pub mod Clauses
