pub mod Parsing
pub mod Refusing
pub mod Spelt
pub mod Fits
pub mod Ranging
pub mod Numerals
pub mod TaskInputLemmas
