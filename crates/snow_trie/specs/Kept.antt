-- What the code keeps beside the model, and what is always true of it.
pub mod Counted
pub mod Tree
pub mod Stamped
pub mod Outline
pub mod Shape
pub mod Growing
pub mod Peeling
pub mod Polled
pub mod Whole
pub mod Alone
pub mod Form
