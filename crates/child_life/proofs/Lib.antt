pub mod StartLemmas
pub mod EndLemmas
