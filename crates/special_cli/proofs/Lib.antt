pub mod Audited
pub mod Calling
pub mod Checked
pub mod Few
pub mod NoMemory
pub mod Rehearsed
pub mod Written
