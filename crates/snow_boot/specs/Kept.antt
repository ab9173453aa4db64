-- What the code keeps beside the model, and what is always true of it.
pub mod BootCode
pub mod Coursing
pub mod Fetching
pub mod Reply
pub mod Surveying
