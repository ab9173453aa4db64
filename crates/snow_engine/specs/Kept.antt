-- What the code keeps beside the model, and what is always true of it.
pub mod Boxed
pub mod NodeCode
pub mod Staging
