pub mod WordsLemmas
pub mod CarryLemmas
