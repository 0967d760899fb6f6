pub mod Laws
pub mod Worker
pub mod Beside
