-- Words of the clauses.
pub mod Gathered
pub mod Memory
pub mod Outside
