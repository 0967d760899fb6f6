mod Calls
mod Lending
mod Everywhere
mod Prepared
mod Keeping
pub mod StartsLemmas
