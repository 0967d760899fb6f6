pub mod Across
pub mod Begun
pub mod Jobs
pub mod Losing
pub mod Preparing
pub mod Requests
pub mod Telling
