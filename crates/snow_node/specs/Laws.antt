-- Laws of the model, and what is said in them alone.
pub mod CompletionLaw
pub mod LoopsLaw
pub mod RestLaw
