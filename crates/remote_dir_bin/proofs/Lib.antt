pub mod Courses
pub mod Telling
