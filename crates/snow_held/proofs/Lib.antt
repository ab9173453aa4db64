mod Stocked
mod Numbered
mod Listed
pub mod Seated
mod Departed
mod Ranged
