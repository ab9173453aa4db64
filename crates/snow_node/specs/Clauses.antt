-- Words of the clauses.
pub mod Matching
pub mod Stepping
