pub mod Inits
pub mod Setups
pub mod Rows
pub use Rattle.ann_outside.specs.Causes
pub use Rattle.cli_words.specs.Settings
pub use Rattle.ann_outside.specs.TextFile.Names
