pub mod JournalTexts
pub use Rattle.registers.specs.RegLines
