pub mod SlotLaws
pub mod Own
pub mod Arms
pub mod Seating
pub mod Standing
pub mod Gathers
