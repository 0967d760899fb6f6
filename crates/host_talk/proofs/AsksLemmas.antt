pub mod KeyDirectories
pub mod Owed
pub mod Settable
