-- Laws of the model, and what is said in them alone.
pub mod FinishLaw
pub mod OutcomeLaw
pub mod Reached
pub mod ReplyLaw
pub mod StoppedLaw
