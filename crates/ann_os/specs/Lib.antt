pub use Rattle.ann_outside.specs.Causes
pub use Rattle.ann_outside.specs.Fails
pub mod RemoteWords
