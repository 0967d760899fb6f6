pub mod Answers
pub mod Answering
pub use Rattle.journal_model.specs.Legality
