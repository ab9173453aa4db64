-- What the code keeps beside the model, and what is always true of it.
pub mod Marks
pub mod Index
pub mod Windows
