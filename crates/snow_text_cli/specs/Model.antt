-- What the program does for its words and its input.
pub mod Words
pub mod Answer
