pub mod Logs
pub mod Keeps
pub mod Entry
pub mod Closing
pub mod RolesLemmas
