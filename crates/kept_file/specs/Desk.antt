pub mod KeptDesks
pub use Rattle.ann_outside.specs.Files
pub use Rattle.kept_file.specs.Text.KeptFiles
