mod Bubbled
mod GoneExamples
pub mod Examples
mod Heights
pub mod Idle
mod OnlyNew
mod Looked
mod Preferred
pub mod Remembered
mod Settled
mod Taken
mod Walked
mod Quieted
mod Resting
mod Stepped
mod Descending
