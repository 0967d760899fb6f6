-- What the main thread makes of a round when its threads are joined.
use Rattle.std.specs.Prelude.{ℕ, ◌≡◌, ◌⊎◌, Bool, true, false}
use Rattle.threads.specs.Passes.{HallValue, IsPassOf, seen_of}
use Rattle.journal_model.specs.declared.entry.Entry.{Entry}
use Rattle.journal_model.specs.declared.opening.Opening.{Opening}
use Rattle.journal_model.specs.declared.verdict.Why.TheVariants.{Memory}
use Rattle.journal_model.specs.Journal.{is_ended}
use Rattle.crew_work.specs.Laws.Rounds.{CorePass}
use Rattle.child_link.specs.Doors.{Ends}
use Rattle.crew_rounds.specs.declared.tagged.outcome.Outcome.{Outcome}
use Rattle.crew_rounds.specs.declared.tagged.outcome.Outcome.TheVariants.{Done}

-- the pass ended the child for lack of memory, or found it ended
pub record HasGivenUp (h : HallValue Entry Opening) (c : ℕ) (p q : CorePass) : Type 0 where
  pub pass : IsPassOf h q
  pub number : q.number ≡ p.number
  pub ends : Ends h.fixed p.number false (seen_of p) (seen_of q) c Memory
  pub over : is_ended (seen_of q) c ≡ true

-- whether a worker ran, whether an ear or a mouth did, and what became of the main thread's pass
abbrev pub Settles : HallValue Entry Opening → ℕ → Bool → Bool → CorePass → CorePass → Outcome → Type 0
Settles h c worked held p q Done = ((worked ≡ true) × (q ≡ p)) ⊎ HasGivenUp h c p q
Settles h c worked held p q _ = (worked ≡ false) × (held ≡ false) × (q ≡ p)
