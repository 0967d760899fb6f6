-- The remote of a kit in the world. It says one word, which it was given before, to each of its calls, and keeps its calls.
use Rattle.std.specs.Prelude.{ℕ, ◌≡◌, List, [], ◌∷◌, Option, Some, None, IsTrue, codes}
use Rattle.kit_serve.specs.declared.kit.call.Said.{Said}
use Rattle.kit_serve.specs.declared.kit.call.Asked.TheVariants.{Prepare}
use Rattle.kit_serve.specs.declared.kit.call.Call.{Call}
use Rattle.kit_serve.specs.Kit.Calls.{is_line_said}

-- the word, and the calls
pub record CueValue : Type 0 where
  pub word : Said
  pub calls : List Call

-- each of the calls was answered by the word
abbrev pub AreSaid : Said → List Call → Type 0
AreSaid word [] = Unit {0}
AreSaid word (call ∷ calls) = (call.said ≡ word) × AreSaid word calls

-- what holds of each cue
pub record IsCue (word : Said) (calls : List Call) : Type 0 where
  pub said : AreSaid word calls
  pub line : IsTrue (is_line_said word)

-- What a cue tells of its calls: first its word, as if it had said it to a call, and then the calls. A kit keeps of its remote what
-- that tells, so it is known of a cue after a kit's step that its word is the one that it was given.
abbrev pub told_calls : CueValue → List Call
told_calls cue = record { asked = Prepare []; said = cue.word } ∷ cue.calls

-- the one setting of a kit in the world
abbrev pub settings : List (List ℕ)
settings = codes "directory" ∷ []

abbrev pub as_list : Option Call → List Call
as_list None = []
as_list (Some call) = call ∷ []
