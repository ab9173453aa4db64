-- Laws of the model, and what is said in them alone.
pub mod Longest
