pub mod Auditing
pub mod Replaying
pub mod Suiting
