pub mod Firsts
pub mod Cuts
pub mod Limits
