pub mod Faults
pub mod Files
pub mod Marks
pub mod Parts
pub mod Spelled
pub mod LayoutsLemmas
pub mod ChunkLogLemmas
pub mod KeyLawsLemmas
