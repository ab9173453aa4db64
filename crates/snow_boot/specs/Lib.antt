pub mod Model
pub mod Laws
pub mod Kept
pub mod Clauses
pub use Rattle.snow_store.specs.declared.stop.BootStop
