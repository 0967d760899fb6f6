pub mod Belonging
pub mod Rows
pub use Rattle.annex_model.specs.Messages
pub use Rattle.kit_async_model.specs.Meanings
pub use Rattle.kit_async_model.specs.Standings
