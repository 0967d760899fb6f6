pub mod Places
pub mod Grouping
pub mod Keeping
pub mod Placing
pub mod Ordering
pub mod Finding
pub mod Turning
pub mod Beginning
