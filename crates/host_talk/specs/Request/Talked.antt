-- What contracts see of a talk.
use Rattle.std.specs.Prelude.{Bool, true, false}
use Rattle.host_talk.specs.declared.request.request.Request.{Request}
use Rattle.host_talk.specs.declared.request.talk.Stage.{Stage}
use Rattle.host_talk.specs.declared.request.talk.Stage.TheVariants.{Waiting, Half, Over}

-- its request, and how far the answer has come
pub record Talked : Type 0 where
  pub request : Request
  pub stage : Stage

abbrev pub is_waiting : Stage → Bool
is_waiting Waiting = true
is_waiting _ = false

abbrev pub is_half : Stage → Bool
is_half Half = true
is_half _ = false

abbrev pub is_last : Stage → Bool
is_last Over = true
is_last _ = false

-- the answer is whole
abbrev pub is_over : Talked → Bool
is_over t = is_last t.stage
