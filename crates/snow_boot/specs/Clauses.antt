-- Words of the clauses.
pub mod Accepting
pub mod Calling
pub mod Promising
pub mod Requesting
