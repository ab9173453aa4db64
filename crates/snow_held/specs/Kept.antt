-- What the code keeps beside the model, and what is always true of it.
pub mod Arrivals
pub mod Roll
pub mod Keys
