pub mod KitVoices
pub mod Talks
pub mod Texts
pub mod WholeLines
pub mod KitLemmas
