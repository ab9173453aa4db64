pub mod Chained
pub mod Formed
pub mod Sized
pub mod Started
pub mod Paid
pub mod Lined
pub mod Spoken
