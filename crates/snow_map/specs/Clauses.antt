-- Words of the clauses.
pub mod Entries
