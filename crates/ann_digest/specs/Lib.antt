pub mod Checkers
pub mod Digests
pub mod Directories
pub mod Fits
pub mod Hashers
pub mod HashKinds
pub use Rattle.ann_key.specs.KeyRefs
pub use Rattle.ann_key.specs.Keys
