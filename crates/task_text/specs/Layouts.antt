pub mod Layouts
pub mod LayoutLaws
pub use Rattle.ann_key.specs.KeyRefs
pub use Rattle.ann_key.specs.Keys
