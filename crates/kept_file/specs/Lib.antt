pub mod Text
pub mod Desk
