-- What the code keeps beside the model, and what is always true of it.
pub mod Children
pub mod Held
pub mod Hints
pub mod Row
pub mod Nodes
