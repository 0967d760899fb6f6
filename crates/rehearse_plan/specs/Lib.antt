pub mod Plans
pub mod Tallies
pub use Rattle.journal_model.specs.Beginnings
