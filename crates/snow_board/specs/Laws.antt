-- Laws of the model, and what is said in them alone.
pub mod Reached
pub mod Excluded
pub mod PointwiseLaw
pub mod Alike
pub mod FailingLaw
pub mod LineLaw
pub mod StandingLaw
pub mod ConfidenceLaw
pub mod QuorumLaw
pub mod Keeping
pub mod KeepingLaw
pub mod SettledLaw
pub mod RoomLaw
pub mod PreferenceLaw
