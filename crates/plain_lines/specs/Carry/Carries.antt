-- What was carried from a source to a sink.
use Rattle.std.specs.Prelude.{ℕ, ◌≡◌, ◌<◌, ◌==◌, nat_le, Bool, false, List, [], ◌∷◌, ◌++◌, take, length, Option, Some, None, IsTrue, ⊤}
use Rattle.std.specs.List.{list_all}
use Rattle.std.specs.Io.KnownBytes.{Appends}
use Rattle.ann_outside.specs.Causes.{StaysUntold}
use Rattle.ann_outside.specs.Told.{SinkTold, SourceTold}
use Rattle.annex_model.specs.Lines.{has_newline, Cut}
use Rattle.wire_line.specs.HeldBytes.{first_line}
use Rattle.plain_lines.specs.declared.carry.end.End.{End}
use Rattle.plain_lines.specs.declared.carry.end.End.TheVariants.{Eof, Long, ReadFault, WriteFault, Memory}

-- bytes of a line, without its end
abbrev pub longest_line : ℕ
longest_line = 1048576

abbrev pub is_short : List ℕ → Bool
is_short line = nat_le (length line) longest_line

-- what may be passed on of a line, None being nothing
abbrev pub Passing : Type 1
Passing = List ℕ → Option (List ℕ) → Type 0

-- each line may be passed on as what stands in its place
abbrev pub AllPass : Passing → List (List ℕ) → List (Option (List ℕ)) → Type 0
AllPass P [] [] = ⊤
AllPass P [] (p ∷ ps) = ⊥
AllPass P (line ∷ lines) [] = ⊥
AllPass P (line ∷ lines) (p ∷ ps) = P line p × AllPass P lines ps

-- the line that is passed on, with its end
abbrev pub passed_text : Option (List ℕ) → List ℕ
passed_text None = []
passed_text (Some line) = line ++ 10 ∷ []

-- and all of them, in their order
abbrev pub text_passed : List (Option (List ℕ)) → List ℕ
text_passed [] = []
text_passed (p ∷ ps) = passed_text p ++ text_passed ps

-- where the lines came to an end or reading failed, no whole line is left; a long line stands first in what is left
abbrev pub IsEnd : End → List ℕ → Type 0
IsEnd Eof rest = has_newline rest ≡ false
IsEnd Long rest = longest_line < length (first_line rest)
IsEnd ReadFault rest = has_newline rest ≡ false
IsEnd WriteFault rest = ⊤
IsEnd Memory rest = ⊤

-- all of it was written; where writing failed, its first bytes
abbrev pub IsWritten : End → List ℕ → List ℕ → Type 0
IsWritten WriteFault out passed = (n : ℕ) × (out ≡ take n passed)
IsWritten Eof out passed = out ≡ passed
IsWritten Long out passed = out ≡ passed
IsWritten ReadFault out passed = out ≡ passed
IsWritten Memory out passed = out ≡ passed

-- what a source gave and a sink took, where they tell it
pub record Told : Type 0 where
  pub given : Option (List ℕ)
  pub taken : Option (List ℕ)

abbrev pub told_of : SourceTold → SinkTold → Told
told_of source sink = record { given = source.given; taken = sink.taken }

-- what came is cut into these lines and a rest, and each line is short and passed on
pub record Carried (P : Passing) (bytes : List ℕ) (lines : List (List ℕ)) (rest : List ℕ) (passed : List (Option (List ℕ))) : Type 0 where
  pub cut : Cut bytes lines rest
  pub short : IsTrue (list_all is_short lines)
  pub pass : AllPass P lines passed

pub record Gains (old new : Told) (bytes out : List ℕ) : Type 0 where
  pub gave : Appends old.given new.given bytes
  pub gave_silent : StaysUntold old.given new.given
  pub took : Appends old.taken new.taken out
  pub took_silent : StaysUntold old.taken new.taken

-- so far these lines were carried, and the rest is held
pub record Going (P : Passing) (begun : Told) (given taken : Option (List ℕ)) (held : List ℕ) : Type 0 where
  pub bytes : List ℕ
  pub lines : List (List ℕ)
  pub passed : List (Option (List ℕ))
  pub gains : Gains begun (record { given = given; taken = taken }) bytes (text_passed passed)
  pub carried : Carried P bytes lines held passed

-- and to this end
pub record Carries (P : Passing) (old new : Told) (end : End) : Type 0 where
  pub bytes : List ℕ
  pub lines : List (List ℕ)
  pub rest : List ℕ
  pub passed : List (Option (List ℕ))
  pub out : List ℕ
  pub gains : Gains old new bytes out
  pub carried : Carried P bytes lines rest passed
  pub written : IsWritten end out (text_passed passed)
  pub ends : IsEnd end rest

-- from the one to the other it goes on, with these bytes held before and after
abbrev pub GoesOn : Passing → Told → Told → List ℕ → List ℕ → Type 0
GoesOn P old new held held' = (begun : Told) → Going P begun old.given old.taken held → Going P begun new.given new.taken held'

-- or it comes to this end
abbrev pub ComesTo : Passing → Told → Told → List ℕ → End → Type 0
ComesTo P old new held end = (begun : Told) → Going P begun old.given old.taken held → Carries P begun new end
