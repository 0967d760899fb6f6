pub mod Left
pub mod Pool
pub mod Sites
pub use Rattle.crew_work.specs.Laws.Laws
pub use Rattle.crew_rounds.specs.Tagged.Outcomes
pub use Rattle.crew_rounds.specs.Tagged.PoolChildren
pub use Rattle.crew_rounds.specs.Tagged.Roles
pub use Rattle.crew_rounds.specs.Tagged.Tagged
