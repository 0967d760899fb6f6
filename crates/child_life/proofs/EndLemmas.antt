pub mod Held
pub mod Across
