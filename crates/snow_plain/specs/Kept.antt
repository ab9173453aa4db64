-- What the code keeps beside the model, and what is always true of it.
pub mod Alone
pub mod Places
pub mod Trees
