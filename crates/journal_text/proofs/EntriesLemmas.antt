pub mod AnswerBack
pub mod DigestBack
pub mod EntryBack
pub mod FirstFields
pub mod Joining
pub mod ReadBack
pub mod VerdictBack
