pub mod Places
pub mod Told
pub mod Asked
pub mod Greeted
pub mod Informing
pub mod Talking
