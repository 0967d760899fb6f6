pub mod Faultless
pub mod Crews
pub mod Running
pub mod WorldLemmas
pub mod WalkLemmas
