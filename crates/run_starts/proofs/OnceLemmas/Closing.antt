-- The closing of the one child of a run that does no task.
use Rattle.std.proofs.Common.{◌≡◌, ◌∙◌, ℕ, List, [], ◌∷◌, ◌++◌, refl, sym, ap, append-nil, Bool, true, false, cond}
use Rattle.std.specs.Prelude.{◌||◌}
use Rattle.std.specs.List.{list_any, cons_option}
use Rattle.journal_model.specs.declared.verdict.Why.TheVariants.{Closed}
use Rattle.journal_model.specs.declared.entry.What.{What}
use Rattle.journal_model.specs.declared.entry.What.TheVariants.{Claim, End, Answer as Answered, Note as Noted, Again}
use Rattle.journal_model.specs.declared.entry.Entry.{Entry}
use Rattle.journal_model.specs.Journal.{any, each_of, ends, is_ended, asked_jobs, open_jobs}
use Rattle.journal_model.specs.Shares.{are_by}
use Rattle.journal_model.specs.Legality.{claimed_for, is_busy_with, has_busy_task, may_stop}
use Rattle.child_link.specs.Alone.{Closes}
use Rattle.child_life.specs.Start.Greetings.{loses}
use Rattle.run_starts.specs.Stints.{main_entry}
use Rattle.run_starts.specs.Once.Once.{is_of_task, starts_in}

-- ---- it may be closed

no_claims : (c : ℕ) (journal : List Entry) → any is_of_task journal ≡ false → each_of (claimed_for c) journal ≡ []
no_claims c [] h = refl
no_claims c (e ∷ journal) h = go e.what h (no_claims c journal)
  where
    go : (w : What) → (is_of_task w || any is_of_task journal) ≡ false → (any is_of_task journal ≡ false → each_of (claimed_for c) journal ≡ [])
        → cons_option (claimed_for c w) (each_of (claimed_for c) journal) ≡ []
    go (Claim task child) h r = absurd cc
    go (Answered task answer) h r = absurd cc
    go (Noted task chunk count) h r = absurd cc
    go (Again task answer) h r = absurd cc
    go w h r = r h

-- a child that has no open job, where no task was claimed
pub idle_may_stop : (journal : List Entry) (c : ℕ) → open_jobs journal c ≡ [] → any is_of_task journal ≡ false → may_stop journal c Closed ≡ true
idle_may_stop journal c settled none =
    let idle : has_busy_task journal c ≡ false = ap (list_any (is_busy_with journal c)) (no_claims c journal none) in
    rw (settled, idle) refl

-- ---- it was closed

-- the entry that closes it, or none
abbrev pub closing_of : Bool → ℕ → List Entry
closing_of ended c = cond ended [] (main_entry (End c Closed) ∷ [])

pub closed_so : (c : ℕ) (past journal : List Entry) → Closes 0 c past journal → journal ≡ past ++ closing_of (is_ended past c) c
closed_so c past journal h = go (is_ended past c) h
  where
    go : (b : Bool) → journal ≡ cond b past (past ++ main_entry (End c Closed) ∷ []) → journal ≡ past ++ closing_of b c
    go true e = e ∙ sym (append-nil past)
    go false e = e

-- nothing else was done
pub record IsStill (more : List Entry) : Type 0 where
  pub starts : starts_in more ≡ []
  pub jobs : asked_jobs more 1 ≡ []
  pub taskless : any is_of_task more ≡ false
  pub unlost : any (loses 1) more ≡ false
  pub main : are_by 0 more ≡ true

pub closing_still : (b : Bool) → IsStill (closing_of b 1)
closing_still true = record { starts = refl; jobs = refl; taskless = refl; unlost = refl; main = refl }
closing_still false = record { starts = refl; jobs = refl; taskless = refl; unlost = refl; main = refl }

pub over_or : (b : Bool) → (b || any (ends 1) (closing_of b 1)) ≡ true
over_or true = refl
over_or false = refl
