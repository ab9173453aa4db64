-- Words of the clauses.
pub mod Listed
