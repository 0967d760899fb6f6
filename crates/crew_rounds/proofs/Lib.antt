pub mod TaggedLemmas
pub mod PoolLemmas
