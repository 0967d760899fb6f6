pub mod ChunkStoring
pub use Rattle.ann_key.specs.KeyRefs
pub use Rattle.annex_model.specs.Lines
pub use Rattle.annex_model.specs.Messages
pub use Rattle.task_model.specs.Askers
pub use Rattle.task_model.specs.Ran
pub use Rattle.task_text.specs.TaskLines
