-- What asking a request comes to.
use Rattle.std.specs.Prelude.{ℕ, ◌≡◌, ◌⊎◌, ◌<◌, ◌^◌, IsTrue, Bool, true, false, List, [], ◌∷◌, ◌++◌, Option, Some, None}
use Rattle.journal_model.specs.declared.verdict.Why.{Why}
use Rattle.journal_model.specs.declared.verdict.Verdict.{Verdict}
use Rattle.journal_model.specs.declared.verdict.Verdict.TheVariants.{Ended, Unsent}
use Rattle.annex_model.specs.Messages.{HostMessage}
use Rattle.journal_model.specs.declared.entry.What.{What}
use Rattle.journal_model.specs.declared.entry.What.TheVariants.{Lost, Verdict as SettledEntry}
use Rattle.journal_model.specs.declared.entry.Entry.{Entry}
use Rattle.journal_model.specs.declared.opening.Opening.{Opening}
use Rattle.journal_model.specs.Journal.{any, verdict_of, why_of, is_ended, is_mute, has_spoken, unsent}
use Rattle.host_core.specs.Steps.{is_gone, asking}
use Rattle.child_link.specs.declared.lone.Settling.{Settling}
use Rattle.child_link.specs.declared.lone.Settling.TheVariants.{Settled, Again, Over}
use Rattle.journal_model.specs.Shares.{Moved, is_of_child, is_by_line, by_link}
use Rattle.child_link.specs.Doors.{Stands, Appended}
use Rattle.child_link.specs.Events.{IsJob}

-- what the child's end, or else its mute, stands for
abbrev pub lost_as : Option Why → Verdict
lost_as None = Unsent
lost_as (Some why) = Ended why

abbrev pub never : What → Bool
never w = false

-- the journal has grown, and the role made nothing but what `makes` picks
abbrev pub Grows : ℕ → Bool → (What → Bool) → List Entry → List Entry → Type 0
Grows number alone makes old new = Moved number alone makes never old new (Unit {0}) (Unit {0})

-- It was the child's next job, with the name before it where one is said, and was settled so. In between the role made nothing but
-- what `makes` picks. Where others left the child alone, this is known of the job.
pub record IsSettledSo (o : Opening) (number : ℕ) (alone : Bool) (makes : What → Bool) (old new : List Entry) (c t : ℕ) (name : Option (List ℕ)) (q : HostMessage) (Known : ℕ → Type 0) (verdict : Verdict) : Type 0 where
  pub job : ℕ
  pub small : job < 2 ^ 64
  pub mid : List Entry
  pub asked : Stands o number alone old mid (λ past. asking past t c name q) (IsJob number c t q job)
  pub on : Moved number alone makes (is_of_child c) mid new (Unit {0}) (Known job)
  pub settled : verdict_of new c job ≡ Some verdict

-- it was lost, since the child had ended or was mute
abbrev pub IsLostSo : Opening → ℕ → Bool → List Entry → List Entry → ℕ → ℕ → Verdict → Type 0
IsLostSo o number alone old new c t verdict =
    Appended o number alone old new (Lost c t) (λ past. IsTrue (is_gone past c) × (verdict ≡ lost_as (why_of past c)))

abbrev pub HasAsked : Opening → ℕ → Bool → (What → Bool) → List Entry → List Entry → ℕ → ℕ → Option (List ℕ) → HostMessage → (ℕ → Type 0) → Verdict → Type 0
HasAsked o number alone makes old new c t name q Known verdict =
    IsSettledSo o number alone makes old new c t name q Known verdict ⊎ IsLostSo o number alone old new c t verdict

-- The child's last entry is this verdict of this job. All lines to it were written, or writing had failed.
pub record IsHeardOut (c job : ℕ) (verdict : Verdict) (journal : List Entry) : Type 0 where
  pub front : List Entry
  pub by : ℕ
  pub rest : List Entry
  pub is : journal ≡ front ++ record { by = by; what = SettledEntry c job verdict } ∷ rest
  pub last : any (is_of_child c) rest ≡ false
  pub written : (unsent journal c ≡ []) ⊎ (is_mute journal c ≡ true)

-- where a line gave the job's verdict, nothing was heard after it, and all was written
abbrev pub HeardOut : ℕ → ℕ → List Entry → Type 0
HeardOut c job journal = (v : Verdict) → verdict_of journal c job ≡ Some v → is_by_line v ≡ true → IsHeardOut c job v journal

-- what asking came to, for a link that hears out what it asks
abbrev pub HasHeardOut : Opening → ℕ → Bool → List Entry → List Entry → ℕ → ℕ → Option (List ℕ) → HostMessage → Verdict → Type 0
HasHeardOut o number alone old new c t name q verdict = HasAsked o number alone (by_link c) old new c t name q (λ job. HeardOut c job new) verdict

-- no line has given the job's verdict
abbrev pub IsUnheard : ℕ → ℕ → List Entry → Type 0
IsUnheard c job journal = (v : Verdict) → verdict_of journal c job ≡ Some v → is_by_line v ≡ false

-- nothing is to be written to the child
abbrev pub IsWritten : ℕ → List Entry → Type 0
IsWritten c journal = (unsent journal c ≡ []) ⊎ (is_gone journal c ≡ true)

-- what a link did, where others left its child alone
abbrev pub HeardMoved : ℕ → Bool → List Entry → List Entry → ℕ → ℕ → Type 0 → Type 0
HeardMoved number alone old new c job Before = Moved number alone (by_link c) (is_of_child c) old new Before (HeardOut c job new)

-- the same, where what was heard before was heard out
abbrev pub HeardOn : ℕ → Bool → List Entry → List Entry → ℕ → ℕ → Type 0
HeardOn number alone old new c job = HeardMoved number alone old new c job (HeardOut c job old)

-- the same, where nothing is to be written and no line has given the job's verdict
abbrev pub HeardNext : ℕ → Bool → List Entry → List Entry → ℕ → ℕ → Type 0
HeardNext number alone old new c job = HeardMoved number alone old new c job (IsWritten c old × IsUnheard c job old)

-- a job that stands as settled is settled so
abbrev pub IsSettling : List Entry → ℕ → ℕ → Settling → Type 0
IsSettling journal c job (Settled verdict) = verdict_of journal c job ≡ Some verdict
IsSettling journal c job Again = Unit {0}
IsSettling journal c job Over = verdict_of journal c job ≡ None → ⊥

-- the child has ended, or has said a line
abbrev pub HasBegun : List Entry → ℕ → Type 0
HasBegun journal c = (is_ended journal c ≡ true) ⊎ (has_spoken journal c ≡ true)
