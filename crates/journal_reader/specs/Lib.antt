pub mod RunTexts
pub mod Kinds
pub mod Readings
pub mod Runs
pub mod Openings
pub use Rattle.task_text.specs.ChunkLog.NoteBooks
pub use Rattle.journal_text.specs.Lines.JournalTexts
