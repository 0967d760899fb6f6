pub mod Dealing
pub mod Backs
pub mod Leaving
pub mod Manning
pub mod Closing
