pub mod Adding
pub mod Clearing
pub mod Courses
pub mod Meaning
pub mod Passing
pub mod Reading
pub mod Removing
pub mod Spelling
