mod Sides
mod Made
mod Journals
mod Linking
pub mod PaceEvents
pub mod PaceMoves
mod Worked
mod AnswerNotes
mod AnswerMoves
mod StoredMoves
mod Standing
