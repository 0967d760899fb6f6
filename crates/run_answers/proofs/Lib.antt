pub mod Answering
pub mod Answered
pub mod Giving
