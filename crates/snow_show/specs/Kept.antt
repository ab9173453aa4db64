-- What the code keeps while it works.
pub mod Listing
pub mod Shortening
