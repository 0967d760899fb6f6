pub mod Openings
pub mod Stops
pub mod Readiness
pub mod Beginnings
pub mod Outcomes
pub use Rattle.ann_outside.specs.Causes
pub use Rattle.mirror_children.specs.Children
