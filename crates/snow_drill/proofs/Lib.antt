pub mod Played
pub mod Spelled
pub mod Examples
pub mod Firsts
