pub mod InfoLemmas
pub mod InitLemmas
