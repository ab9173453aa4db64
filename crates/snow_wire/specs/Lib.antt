pub mod Model
pub mod Laws
pub mod Clauses
