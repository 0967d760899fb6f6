pub mod Logs
pub mod ReadLaws
pub mod WriteLaws
pub mod Naming
