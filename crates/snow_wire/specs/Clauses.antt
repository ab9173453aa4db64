-- Words of the clauses.
pub mod Filling
pub mod Spelled
pub mod Stream
pub mod Viewed
