mod WordExamples
pub mod Ended
