pub mod Cutting
pub mod Saying
pub mod Named
pub mod Listed
pub mod Appended
