pub mod Alone
pub mod Climbed
pub mod Depths
pub mod Growing
pub mod Judged
pub mod Placed
pub mod Swept
pub mod Taken
