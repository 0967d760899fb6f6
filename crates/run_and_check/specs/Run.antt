pub mod Inputs
pub mod Runs
pub mod Beginnings
pub mod Workings
pub use Rattle.annex_model.specs.Lines
pub use Rattle.task_text.specs.ChunkLog.ChunkLines
pub use Rattle.cli_words.specs.Identities
pub use Rattle.journal_model.specs.Limits
