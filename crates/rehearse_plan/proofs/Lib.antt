pub mod Plain
pub mod Planned
pub mod Looping
