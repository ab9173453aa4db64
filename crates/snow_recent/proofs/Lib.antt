mod Appended
mod Doubled
pub mod Examples
mod Filed
mod Forgotten
mod Latest
mod Looked
mod Newest
