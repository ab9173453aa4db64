-- Words of the clauses.
pub mod Coming
