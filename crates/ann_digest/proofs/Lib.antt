pub mod Fitting
pub mod HexText
pub mod Namings
pub mod WormKeys
pub mod Zeros
