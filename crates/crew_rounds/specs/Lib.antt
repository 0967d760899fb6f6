pub mod Tagged
pub mod Pool
