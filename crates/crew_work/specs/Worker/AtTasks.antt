-- How a task stands that may ask and note, and what asking and noting do.
use Rattle.std.specs.Prelude.{ℕ, ◌≡◌, true, false, List, [], ◌∷◌, ◌++◌, length, Option, Result, MatchResult}
use Rattle.ann_key.specs.declared.bytes.NoMemory.{NoMemory}
use Rattle.annex_model.specs.Messages.{HostMessage}
use Rattle.journal_model.specs.declared.verdict.Verdict.{Verdict}
use Rattle.journal_model.specs.declared.entry.Entry.{Entry}
use Rattle.journal_model.specs.declared.opening.Opening.{Opening}
use Rattle.journal_model.specs.Legality.{Legal, is_claimed_by, has_open_job}
use Rattle.task_model.specs.Askers.{Noting, AsksOne}
use Rattle.task_model.specs.Askings.{askings, notings_from}

-- the number holds task t, no job of which is open
pub record AtTask (o : Opening) (number t : ℕ) (seen : List Entry) : Type 0 where
  pub legal : Legal o seen
  pub held : is_claimed_by seen number t ≡ true
  pub shut : has_open_job seen t ≡ false

-- the notes of task t, each after the requests before it
abbrev pub notings : List Entry → ℕ → List Noting
notings journal t = notings_from journal t [] 0 journal

-- the number holds the task still, and the journal has no request and no note of it more
pub record SameTask (o : Opening) (number t : ℕ) (old new : List Entry) : Type 0 where
  pub at : AtTask o number t new
  pub asked : askings new t ≡ askings old t
  pub noted : notings new t ≡ notings old t

-- the number holds the task still, and the journal has this request of it more, after this name, with this verdict, and no note more
pub record AsksNow (o : Opening) (number t : ℕ) (old new : List Entry) (name : Option (List ℕ)) (q : HostMessage) (verdict : Verdict) : Type 0 where
  pub at : AtTask o number t new
  pub asked : AsksOne (askings old t) (askings new t) name q verdict
  pub noted : notings new t ≡ notings old t

-- without memory nothing was asked
abbrev pub AskedFor : Opening → ℕ → ℕ → List Entry → List Entry → Option (List ℕ) → HostMessage → Result Verdict NoMemory → Type 0
AskedFor o number t old new name q result = MatchResult result (AsksNow o number t old new name q) (λ _. SameTask o number t old new)

-- the number holds the task still, and the journal has this note of it more, after its requests so far, and no request more
pub record NotesNow (o : Opening) (number t : ℕ) (old new : List Entry) (chunk count : ℕ) : Type 0 where
  pub at : AtTask o number t new
  pub asked : askings new t ≡ askings old t
  pub noted : notings new t ≡ notings old t ++ record { chunk = chunk; count = count; behind = length (askings old t) } ∷ []

abbrev pub NotedFor : Opening → ℕ → ℕ → List Entry → List Entry → ℕ → ℕ → Result (Unit {0}) NoMemory → Type 0
NotedFor o number t old new chunk count result = MatchResult result (λ _. NotesNow o number t old new chunk count) (λ _. SameTask o number t old new)
