pub mod LawsLemmas
pub mod WorkerLemmas
pub mod BesideLemmas
