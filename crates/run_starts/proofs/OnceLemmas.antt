pub mod Beginning
pub mod Closing
pub mod Leaving
pub mod Looking
