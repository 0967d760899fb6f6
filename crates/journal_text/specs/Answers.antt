pub use Rattle.journal_model.specs.Output
