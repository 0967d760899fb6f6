pub mod Printed
pub mod Wishes
