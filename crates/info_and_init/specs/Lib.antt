pub mod Info
pub mod Init
