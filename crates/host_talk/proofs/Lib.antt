pub mod RequestLemmas
pub mod AsksLemmas
