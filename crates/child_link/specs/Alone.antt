-- What a link does where nobody else steps the core: its entries stand directly after what was seen.
use Rattle.std.specs.Prelude.{ℕ, ◌≡◌, ◌⊎◌, if◌then◌else◌, IsTrue, true, false, List, [], ◌∷◌, ◌++◌, Option, Some}
use Rattle.std.specs.List.{list_all}
use Rattle.journal_model.specs.declared.verdict.Why.TheVariants.{Closed}
use Rattle.journal_model.specs.declared.verdict.Verdict.{Verdict}
use Rattle.annex_model.specs.Messages.{HostMessage}
use Rattle.journal_model.specs.declared.entry.What.TheVariants.{End, Lost}
use Rattle.journal_model.specs.declared.entry.Entry.{Entry}
use Rattle.journal_model.specs.declared.opening.Opening.{Opening}
use Rattle.journal_model.specs.Journal.{asked_jobs, verdict_of, why_of, is_ended, is_mute}
use Rattle.journal_model.specs.Due.{made_by}
use Rattle.host_core.specs.Steps.{asking, group_of, is_gone, next_job}
use Rattle.journal_model.specs.Shares.{are_by, by_link, is_by_line}
use Rattle.journal_model.specs.Halves.{EarValue, MouthValue, LinkWired, IsSameEar, IsSameMouth}
use Rattle.child_link.specs.Asks.{lost_as, IsHeardOut}
use Rattle.child_link.specs.Doors.{DoorView}
use Rattle.child_link.specs.Writings.{is_written_first, LoneWired}

-- the journal has grown by entries of c's link alone, made by this number
pub record GoesOn (number c : ℕ) (old new : List Entry) : Type 0 where
  pub more : List Entry
  pub is : new ≡ old ++ more
  pub quiet : list_all (λ e. by_link c e.what) more ≡ true
  pub own : are_by number more ≡ true

-- the child is closed and nothing else is done, or nothing at all where it had ended
abbrev pub Closes : ℕ → ℕ → List Entry → List Entry → Type 0
Closes by c old new = new ≡ (if is_ended old c then old else old ++ record { by = by; what = End c Closed } ∷ [])

-- It was the child's next job, with the name before it where one is said, and was settled so without another request. A verdict that
-- a line gave came of what was written, and is the last that was heard.
pub record IsSettled (o : Opening) (old new : List Entry) (by c t : ℕ) (name : Option (List ℕ)) (q : HostMessage) (verdict : Verdict) : Type 0 where
  pub live : is_ended old c ≡ false
  pub loud : is_mute old c ≡ false
  pub goes : GoesOn by c (old ++ made_by by (asking old t c name q)) new
  pub settled : verdict_of new c (next_job old c) ≡ Some verdict
  pub heard : is_by_line verdict ≡ true → IsHeardOut c (next_job old c) verdict new

-- it was lost, since the child had ended or was mute
pub record IsLost (o : Opening) (old new : List Entry) (by c t : ℕ) (verdict : Verdict) : Type 0 where
  pub gone : IsTrue (is_gone old c)
  pub made : new ≡ old ++ group_of o old by (Lost c t)
  pub lost : verdict ≡ lost_as (why_of old c)

abbrev pub AskedAlone : Opening → List Entry → List Entry → ℕ → ℕ → ℕ → Option (List ℕ) → HostMessage → Verdict → Type 0
AskedAlone o old new by c t name q verdict = IsSettled o old new by c t name q verdict ⊎ IsLost o old new by c t verdict

-- the same of a door, by its views before and after
abbrev pub AsksAlone : {H : Type 0} → DoorView H → DoorView H → ℕ → ℕ → Option (List ℕ) → HostMessage → Verdict → Type 0
AsksAlone old new c t name q verdict = AskedAlone old.opening old.seen new.seen old.number c t name q verdict

-- both halves stay those of the child and of its start, and stay wired, and requests stay written before they are answered
pub record KeepsLink (old new : List Entry) (ear ear' : EarValue) (mouth mouth' : MouthValue) : Type 0 where
  pub wired : LoneWired old ear mouth → LoneWired new ear' mouth'
  pub same_ear : IsSameEar ear ear'
  pub same_mouth : IsSameMouth mouth mouth'

-- the same where nothing was written before the child was heard: it holds of requests where there were none
pub record HearsLink (old new : List Entry) (ear ear' : EarValue) (mouth mouth' : MouthValue) : Type 0 where
  pub wired : LinkWired old ear mouth → LinkWired new ear' mouth'
  pub written : asked_jobs old ear.child ≡ [] → is_written_first new ear.child ≡ true
  pub same_ear : IsSameEar ear ear'
  pub same_mouth : IsSameMouth mouth mouth'
