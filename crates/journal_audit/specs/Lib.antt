pub mod Audits
pub mod Replays
pub use Rattle.journal_model.specs.Beginnings
