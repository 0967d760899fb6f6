pub mod FromKept
pub mod Keeping
pub mod Naming
pub mod Settling
