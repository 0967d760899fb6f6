pub mod Request
pub mod Asks
