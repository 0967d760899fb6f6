pub mod Children
pub mod Rule
pub mod Asking
pub use Rattle.kit_serve.specs.Kit.Calls
pub use Rattle.host_talk.specs.Request.Requests
pub mod Plan
