pub mod Alone
pub mod AtZero
pub mod Mains
pub mod Completing
pub mod Holding
pub mod Lost
pub mod OneSlot
