pub mod Workers
pub mod Walks
pub use Rattle.pair_kit.specs.Stored
pub use Rattle.pair_world.specs.Rows
pub use Rattle.pair_world.specs.Standing
pub use Rattle.rehearse_plan.specs.Plans
