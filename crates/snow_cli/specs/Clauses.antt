-- Words of the clauses.
pub mod Answer
