pub mod Calling
pub mod Ends
pub mod Passes
pub mod Reading
pub mod Writing
pub use Rattle.kit_serve.specs.Limits
