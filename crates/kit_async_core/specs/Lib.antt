pub mod Halls
pub mod Laws
pub mod Steps
pub use Rattle.kit_async_model.specs.Books
pub use Rattle.kit_async_model.specs.Events
pub use Rattle.kit_async_model.specs.Legality
pub use Rattle.kit_async_model.specs.Standings
