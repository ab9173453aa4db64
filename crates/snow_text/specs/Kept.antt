-- What the code keeps while it works.
pub mod Pieces
