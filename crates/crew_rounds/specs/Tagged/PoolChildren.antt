-- The children of a pool: which of them can serve, and where a round over them may begin.
use Rattle.std.specs.Prelude.{ℕ, ◌≡◌, List, Some, All}
use Rattle.journal_model.specs.declared.verdict.Why.TheVariants.{Closed}
use Rattle.journal_model.specs.declared.entry.Entry.{Entry}
use Rattle.journal_model.specs.declared.opening.Opening.{Opening}
use Rattle.journal_model.specs.Journal.{why_of}
use Rattle.child_link.specs.Writings.{LoneWired}
use Rattle.crew_work.specs.Laws.Rounds.{LinkValue, IsAtRest}
use Rattle.crew_work.specs.Laws.Laws.{Distinct, children_of}
use Rattle.crew_work.specs.Worker.Works.{CanServe}

-- The child of this link can serve in a round: it was got ready and not closed; and the link is wired to the journal, where each
-- request was written before a line answered it.
pub record MayServe (o : Opening) (journal : List Entry) (l : LinkValue) : Type 0 where
  pub serves : CanServe o l.ear.child journal
  pub unclosed : why_of journal l.ear.child ≡ Some Closed → ⊥
  pub wired : LoneWired journal l.ear l.mouth

-- A round over these links may begin: no task is busy and no job is open; the children differ, and each can serve.
pub record PoolCan (o : Opening) (journal : List Entry) (links : List LinkValue) : Type 0 where
  pub calm : IsAtRest journal
  pub differ : Distinct (children_of links)
  pub each : All (MayServe o journal) links
