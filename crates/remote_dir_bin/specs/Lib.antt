pub mod Following
pub mod Serving
