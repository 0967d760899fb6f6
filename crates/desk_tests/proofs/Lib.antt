pub mod TasksLemmas
