-- Words of the clauses.
pub mod Boxing
pub mod Ends
pub mod Serving
pub mod Stopping
