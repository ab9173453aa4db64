-- What the code keeps beside the model, and what is always true of it.
pub mod Told
pub mod Firsts
pub mod Following
