pub mod Entries
pub mod Lines
pub mod Answers
pub mod File
