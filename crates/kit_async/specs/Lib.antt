pub mod Courses
pub mod Dealt
pub mod Endings
pub mod Laws
pub mod Served
pub mod Turns
pub use Rattle.kit_async.specs.Work.Passes
pub mod Work
