-- Whether what was asked of a child was written to it before a line answered, and what one turn of a mouth does.
use Rattle.std.specs.Prelude.{ℕ, ◌≡◌, ◌⊎◌, ◌<◌, ◌==◌, ◌&&◌, ◌||◌, not, Bool, true, false, List, [], ◌∷◌, ◌++◌, take}
use Rattle.std.specs.Io.KnownBytes.{Appends}
use Rattle.ann_outside.specs.Told.{SinkTold}
use Rattle.journal_model.specs.declared.verdict.Why.TheVariants.{Memory}
use Rattle.journal_model.specs.declared.entry.What.{What}
use Rattle.journal_model.specs.declared.entry.What.TheVariants.{Verdict as Settled}
use Rattle.journal_model.specs.declared.entry.Entry.{Entry}
use Rattle.journal_model.specs.declared.opening.Opening.{Opening}
use Rattle.journal_model.specs.Journal.{is_mute, is_unsent}
use Rattle.journal_model.specs.Shares.{is_by_line}
use Rattle.journal_model.specs.Halves.{EarValue, MouthValue, LinkWired}
use Rattle.child_link.specs.declared.ear.Turn.{Turn}
use Rattle.child_link.specs.declared.ear.Turn.TheVariants.{Again, Rest, Over}
use Rattle.child_link.specs.Doors.{Passed, Ends, Sends, Mutes}
use Rattle.child_link.specs.Events.{IsNextLine}

-- ---- requests

-- a line settled a job of c
abbrev pub settles_by_line : ℕ → What → Bool
settles_by_line c (Settled child job verdict) = child == c && is_by_line verdict
settles_by_line c _ = false

-- where a line settled a job of c, a Sent before it covers the job's request, or c was mute
abbrev pub settles_written : List Entry → ℕ → What → Bool
settles_written past c (Settled child job verdict) = not (child == c && is_by_line verdict) || (is_mute past c || not (is_unsent past c job))
settles_written past c _ = true

abbrev pub written_from : ℕ → List Entry → List Entry → Bool
written_from c past [] = true
written_from c past (e ∷ rest) = settles_written past c e.what && written_from c (past ++ e ∷ []) rest

-- Each job of c that a line settled was written before, or c was mute. So a request that was put into the journal and not
-- written has no answer.
abbrev pub is_written_first : List Entry → ℕ → Bool
is_written_first journal c = written_from c [] journal

-- both halves are wired, each line was fed in its turn, and each request was written before it was answered
pub record LoneWired (journal : List Entry) (e : EarValue) (m : MouthValue) : Type 0 where
  pub link : LinkWired journal e m
  pub written : is_written_first journal e.child ≡ true

-- ---- one turn

-- the child, and what its inlet tells
abbrev pub mouth_value : ℕ → SinkTold → MouthValue
mouth_value child inlet = record { child = child; taken = inlet.taken; faults = inlet.faults; number = inlet.number }

-- the line was written whole and noted so; or a write failed, and the child was noted as mute
abbrev pub IsWriting : Opening → ℕ → Bool → List Entry → List Entry → MouthValue → MouthValue → List ℕ → Type 0
IsWriting o number alone old new mouth mouth' line =
    (Appends mouth.taken mouth'.taken line × Sends o number alone old new mouth.child)
    ⊎ (((n : ℕ) × Appends mouth.taken mouth'.taken (take n line)) × (0 < mouth'.faults) × Mutes o number alone old new mouth.child)

-- The next line was written, or a write of it failed. Where none was to be written nothing was done, or the child was ended where
-- no memory was found.
abbrev pub IsSpeaking : Opening → ℕ → Bool → List Entry → List Entry → MouthValue → MouthValue → Turn → Type 0
IsSpeaking o number alone old new mouth mouth' Again =
    (past : List Entry) × Passed number alone old past
    × ((line : List ℕ) × IsNextLine past mouth.child line × IsWriting o number alone past new mouth mouth' line)
IsSpeaking o number alone old new mouth mouth' Rest = (mouth' ≡ mouth) × Passed number alone old new
IsSpeaking o number alone old new mouth mouth' Over =
    (mouth' ≡ mouth) × ((past : List Entry) × Passed number alone old past × ((new ≡ past) ⊎ Ends o number alone past new mouth.child Memory))
