pub mod Children
pub mod PipeLemmas
