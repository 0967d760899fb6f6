pub mod Lines
pub use Rattle.annex_model.specs.Messages
pub use Rattle.journal_model.specs.Replies
pub use Rattle.wire_msg.specs.Shown
