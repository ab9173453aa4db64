-- What the code keeps beside the model, and what is always true of it.
pub mod Chains
pub mod Guide
pub mod Drawn
