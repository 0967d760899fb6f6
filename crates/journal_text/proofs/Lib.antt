pub mod EntriesLemmas
pub mod LinesLemmas
pub mod FileLemmas
