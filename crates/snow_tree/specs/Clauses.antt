-- Words of the clauses.
pub mod Lent
pub mod Lending
