-- What the code keeps beside the model, and what is always true of it.
pub mod Climbing
pub mod Ladder
pub mod Rising
pub mod Starting
pub mod Majority
