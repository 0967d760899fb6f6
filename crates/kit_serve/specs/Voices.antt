-- What answers a host's lines, whatever it is: the lines that it heard, and those that it said.
use Rattle.std.specs.Prelude.{ℕ, ◌≡◌, ◌<◌, ◌≤◌, ◌+◌, ◌-◌, ◌^◌, ◌⊎◌, Bool, true, false, List, [], ◌∷◌, ◌++◌, take, length, codes, Option, Some, None, Result, Ok, Err, IsTrue}
use Rattle.std.specs.List.{list_all}
use Rattle.std.specs.Io.KnownBytes.{Appends}
use Rattle.ann_outside.specs.Causes.{StaysUntold}
use Rattle.ann_outside.specs.Told.{SinkTold, SourceTold}
use Rattle.annex_model.specs.Lines.{text, has_newline, Cut}
use Rattle.kit_serve.specs.declared.kit.kit.Step.{Step}
use Rattle.kit_serve.specs.Limits.{longest_line, is_short, next_line}
use Rattle.kit_serve.specs.declared.end.End.{End}
use Rattle.kit_serve.specs.declared.end.End.TheVariants.{Eof, Bad, ReadFault, WriteFault, Memory}

-- from the first voice to the second these lines were heard, and those said
abbrev pub Spoken : Type 0 → Type 1
Spoken V = V → V → List (List ℕ) → List (List ℕ) → Type 0

-- with this line these lines were said
abbrev pub Utters : {V : Type 0} → Spoken V → V → V → List ℕ → List (List ℕ) → Type 0
Utters spoke old new line say = (begun : _) (lines said : List (List ℕ)) → spoke begun old lines said → spoke begun new (lines ++ line ∷ []) (said ++ say)

-- the line was answered; or nothing can be said to it, and nothing was done
abbrev pub Replies : {V : Type 0} → Spoken V → (V → Bool) → (V → List ℕ → Type 0) → V → V → List ℕ → Option Step → Type 0
Replies spoke over foul old new line None = foul old line × (new ≡ old)
Replies spoke over foul old new line (Some step) = Utters spoke old new line step.say × (step.over ≡ over new)

-- ---- one line over a sink

-- what is said to the line was written
pub record Writes {V : Type 0} (spoke : Spoken V) (old new : V) (taken taken' : Option (List ℕ)) (line : List ℕ) : Type 0 where
  pub say : List (List ℕ)
  pub utters : Utters spoke old new line say
  pub took : Appends taken taken' (text say)
  pub silent : StaysUntold taken taken'

-- and only its first bytes were
pub record Falters {V : Type 0} (spoke : Spoken V) (old new : V) (taken taken' : Option (List ℕ)) (line : List ℕ) : Type 0 where
  pub say : List (List ℕ)
  pub n : ℕ
  pub utters : Utters spoke old new line say
  pub took : Appends taken taken' (take n (text say))
  pub silent : StaysUntold taken taken'

abbrev pub Hears : {V T : Type 0} → Spoken V → (V → Bool) → (V → List ℕ → Type 0) → (V → V → List ℕ → Type 0) → V → V → Option (List ℕ) → Option (List ℕ) → List ℕ → Result T End → Type 0
Hears spoke over foul lacks old new taken taken' line (Ok x) = Writes spoke old new taken taken' line × (over new ≡ false)
Hears spoke over foul lacks old new taken taken' line (Err Bad) =
    (Writes spoke old new taken taken' line × (over new ≡ true)) ⊎ (foul old line × (new ≡ old) × (taken' ≡ taken))
Hears spoke over foul lacks old new taken taken' line (Err WriteFault) = Falters spoke old new taken taken' line
Hears spoke over foul lacks old new taken taken' line (Err Memory) = lacks old new line × (taken' ≡ taken)
Hears spoke over foul lacks old new taken taken' line (Err Eof) = ⊥
Hears spoke over foul lacks old new taken taken' line (Err ReadFault) = ⊥

-- ---- a whole talk

-- what is to be written to a host that heard these
abbrev pub opening_text : List (List ℕ) → List ℕ
opening_text said = text (codes "VERSION 1" ∷ said)

-- what a source gave and a sink took, where they tell it
pub record Bytes : Type 0 where
  pub given : Option (List ℕ)
  pub taken : Option (List ℕ)

abbrev pub bytes_of : SourceTold → SinkTold → Bytes
bytes_of source sink = record { given = source.given; taken = sink.taken }

pub record Passes (old new : Bytes) (bytes out : List ℕ) : Type 0 where
  pub gave : Appends old.given new.given bytes
  pub gave_silent : StaysUntold old.given new.given
  pub took : Appends old.taken new.taken out
  pub took_silent : StaysUntold old.taken new.taken

-- A host is talked to for so many turns: what the source gave is lines and the bytes that are held, the voice heard these lines, and
-- the version and all that it said to them was written. Each turn took a line or a byte.
pub record Talking {V : Type 0} (spoke : Spoken V) (begun : V) (old new : Bytes) (voice : V) (held : List ℕ) (turns : ℕ) : Type 0 where
  pub bytes : List ℕ
  pub lines : List (List ℕ)
  pub said : List (List ℕ)
  pub passes : Passes old new bytes (opening_text said)
  pub cut : Cut bytes lines held
  pub short : IsTrue (list_all is_short lines)
  pub stands : spoke begun voice lines said
  pub many : turns ≤ length lines + length bytes

-- all of it was written; where writing failed, its first bytes
abbrev pub IsWritten : End → List ℕ → List ℕ → Type 0
IsWritten WriteFault out said = (n : ℕ) × (out ≡ take n said)
IsWritten end out said = out ≡ said

-- the next line has no memory to be answered
pub record Lacking {V : Type 0} (spoke : Spoken V) (over : V → Bool) (lacks : V → V → List ℕ → Type 0) (begun last : V) (lines said : List (List ℕ)) (rest : List ℕ) : Type 0 where
  pub before : V
  pub stands : spoke begun before lines said
  pub live : over before ≡ false
  pub whole : has_newline rest ≡ true
  pub found_none : lacks before last (next_line rest)

-- more turns than a counter counts
abbrev pub IsEndless : List (List ℕ) → List ℕ → Type 0
IsEndless lines bytes = 2 ^ 64 - 1 ≤ length lines + length bytes

-- By the end: where the host's lines came to an end or reading failed, all whole lines were heard. Where memory ran out, it did so
-- for a read, with no whole line left, or for the next line; or there were too many turns.
abbrev pub EndsBy : {V : Type 0} → Spoken V → (V → Bool) → (V → List ℕ → Type 0) → (V → V → List ℕ → Type 0) → End → V → V → List (List ℕ) → List (List ℕ) → List ℕ → List ℕ → Type 0
EndsBy spoke over foul lacks Eof begun last lines said rest bytes = spoke begun last lines said × (over last ≡ false) × (has_newline rest ≡ false)
EndsBy spoke over foul lacks ReadFault begun last lines said rest bytes = spoke begun last lines said × (over last ≡ false) × (has_newline rest ≡ false)
EndsBy spoke over foul lacks Bad begun last lines said rest bytes =
    spoke begun last lines said × ((over last ≡ true)
    ⊎ ((over last ≡ false) × ((longest_line < length (next_line rest)) ⊎ ((has_newline rest ≡ true) × foul last (next_line rest)))))
EndsBy spoke over foul lacks WriteFault begun last lines said rest bytes = spoke begun last lines said
EndsBy spoke over foul lacks Memory begun last lines said rest bytes =
    (spoke begun last lines said × (over last ≡ false) × ((has_newline rest ≡ false) ⊎ IsEndless lines bytes)) ⊎ Lacking spoke over lacks begun last lines said rest

-- A host was talked to, to this end.
pub record Talked {V : Type 0} (spoke : Spoken V) (over : V → Bool) (foul : V → List ℕ → Type 0) (lacks : V → V → List ℕ → Type 0) (begun : V) (old new : Bytes) (last : V) (end : End) : Type 0 where
  pub bytes : List ℕ
  pub lines : List (List ℕ)
  pub rest : List ℕ
  pub said : List (List ℕ)
  pub out : List ℕ
  pub passes : Passes old new bytes out
  pub cut : Cut bytes lines rest
  pub short : IsTrue (list_all is_short lines)
  pub written : IsWritten end out (opening_text said)
  pub ends : EndsBy spoke over foul lacks end begun last lines said rest bytes
