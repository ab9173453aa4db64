-- What the code keeps beside the model, and what is always true of it.
pub mod CountersCode
pub mod Walk
pub mod BoardCode
pub mod Grown
pub mod Ending
pub mod Cursors
