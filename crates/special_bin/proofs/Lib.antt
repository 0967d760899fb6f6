pub mod LawsLemmas
pub mod Said
