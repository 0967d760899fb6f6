pub mod Log
pub mod Rule
pub mod Resting
pub mod Passes
pub mod Roles
