pub mod Checks
pub mod Preparings
pub use Rattle.ann_key.specs.KeyRefs
pub use Rattle.cli_words.specs.Refusals
