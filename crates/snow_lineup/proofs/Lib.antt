pub mod Noted
pub mod Tagged
mod Placed
mod Windowed
mod Newest
