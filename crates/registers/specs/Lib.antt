pub mod Links
pub mod Logins
pub mod RegLines
pub mod Registers
pub mod Rows
pub mod Tables
pub use Rattle.ann_key.specs.Keys
