-- Words of the clauses.
pub mod Range
