pub mod Encoded
pub mod Joined
pub mod Placed
pub mod Printed
pub mod Waiting
