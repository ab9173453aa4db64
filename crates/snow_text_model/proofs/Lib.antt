mod Examples
pub mod Marks
pub mod Runs
pub mod Pieces
pub mod Framed
pub mod Tidied
pub mod Values
pub mod Fields
pub mod Clean
pub mod Worded
pub mod Shaped
pub mod Told
mod Pages
