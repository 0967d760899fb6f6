pub mod Rehearsals
pub mod World
pub mod Walk
