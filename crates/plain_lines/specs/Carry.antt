pub mod Carries
pub mod Turns
pub use Rattle.plain_lines.specs.Words.Changes
