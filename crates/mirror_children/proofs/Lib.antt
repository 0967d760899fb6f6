pub mod Fronts
pub mod Answering
mod Told
mod Serving
pub mod PlanLemmas
