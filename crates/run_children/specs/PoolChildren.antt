pub mod Pools
pub mod Seats
pub mod Slots
pub use Rattle.child_life.specs.Start.Cores
pub use Rattle.crew_rounds.specs.Tagged.PoolChildren
pub use Rattle.crew_rounds.specs.Tagged.Tagged
pub use Rattle.journal_model.specs.Legality
