pub mod Settings
pub mod Plans
pub use Rattle.registers.specs.Registers
