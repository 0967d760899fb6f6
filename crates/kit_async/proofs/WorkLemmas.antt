pub mod Ends
pub mod Groups
pub mod Readers
pub mod Workers
pub mod Writers
