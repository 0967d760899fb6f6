pub mod Agreeing
pub mod Complete
pub mod Continuing
mod Going
mod KeptOrder
mod KeptSaid
mod KeptWritten
mod LineFields
mod OneText
mod ReadBack
mod RunLines
mod SameNotes
pub mod Sound
