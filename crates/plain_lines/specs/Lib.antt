pub mod Words
pub mod Carry
