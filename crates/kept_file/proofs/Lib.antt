pub mod TextLemmas
pub mod DeskLemmas
