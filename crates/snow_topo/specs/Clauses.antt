-- Words of the clauses.
pub mod Told
pub mod Ballot
