pub mod Answers
pub mod Digits
pub mod Entries
pub mod Fields
pub mod Verdicts
pub mod Whys
pub use Rattle.journal_scan.specs.Shown
