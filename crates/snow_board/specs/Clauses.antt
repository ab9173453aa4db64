-- Words of the clauses.
pub mod Shown
