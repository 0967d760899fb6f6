pub mod Begun
pub mod Kept
pub mod Working
pub mod Leaving
pub mod Journaled
pub mod Crews
pub mod Naming
pub mod Origins
