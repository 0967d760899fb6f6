pub mod Added
pub mod Naming
