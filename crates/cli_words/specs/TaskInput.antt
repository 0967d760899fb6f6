pub mod InputLines
pub mod Inputs
pub mod Reads
pub mod Steps
pub mod Rows
pub use Rattle.ann_outside.specs.Causes
pub use Rattle.annex_model.specs.Lines
