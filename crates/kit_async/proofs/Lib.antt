pub mod Ended
pub mod Gathered
pub mod Kept
pub mod Playing
pub mod Returned
pub mod Speaking
pub mod Turning
pub mod WorkLemmas
