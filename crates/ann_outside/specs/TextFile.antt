pub mod Reads
pub mod Writes
pub mod Names
pub use Rattle.ann_outside.specs.DeskCauses
pub use Rattle.ann_outside.specs.Files
