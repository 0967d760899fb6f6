pub mod Oldest
pub mod Prefixes
pub mod Turning
