-- What the code keeps beside the model, and what is always true of it.
pub mod Children
pub mod ChildrenCode
pub mod View
pub mod Half
pub mod Climbed
pub mod Leading
pub mod Recording
pub mod Counting
pub mod Renewed
pub mod Gaining
pub mod Walking
pub mod Standing
