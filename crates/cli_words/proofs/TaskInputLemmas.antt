pub mod Lined
pub mod Taking
pub mod Given
pub mod Cuts
