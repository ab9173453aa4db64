pub mod Model
pub mod Kept
pub mod Clauses
pub use Rattle.snow_store.specs.declared.stop.BootStop
pub use Rattle.snow_sample.specs.declared.roster.RosterFault
