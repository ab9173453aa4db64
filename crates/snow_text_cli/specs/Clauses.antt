-- Words of the clauses.
pub mod Answering
pub mod Ends
