-- What the code keeps beside the model, and what is always true of it.
pub mod Listed
pub mod Placed
pub mod Seats
