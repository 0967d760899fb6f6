pub mod Hearing
pub mod Lists
pub mod Reading
pub mod Staging
