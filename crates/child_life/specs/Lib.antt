pub mod Start
pub mod End
