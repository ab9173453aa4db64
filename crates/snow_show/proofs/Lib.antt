pub mod Putting
pub mod Shortened
pub mod Itemed
pub mod Blocked
pub mod Ledgered
pub mod Evented
pub mod Framing
pub mod Brevity
