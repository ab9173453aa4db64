pub mod Encoded
pub mod Figures
pub mod Sixteen
