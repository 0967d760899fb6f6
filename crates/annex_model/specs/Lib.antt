pub mod Extensions
pub mod Hearings
pub mod Laws
pub mod Lines
pub mod Messages
pub mod Tags
pub mod Talks
pub mod Turns
