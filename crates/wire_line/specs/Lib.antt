pub mod HeldBytes
pub mod Nexts
