pub mod JournalDesks
pub use Rattle.ann_outside.specs.Files
pub use Rattle.journal_text.specs.Lines.JournalTexts
