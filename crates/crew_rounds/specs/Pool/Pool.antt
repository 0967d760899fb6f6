-- A round over a pool of children: where it may begin, and what it leaves.
use Rattle.ann_outside.specs.Told.{DeskTold}
use Rattle.std.specs.Prelude.{ℕ, ◌≡◌, List, ◌++◌, Some, All}
use Rattle.journal_model.specs.declared.verdict.Why.TheVariants.{Closed}
use Rattle.journal_model.specs.declared.entry.Entry.{Entry}
use Rattle.journal_model.specs.declared.opening.Opening.{Opening}
use Rattle.journal_model.specs.Journal.{why_of}
use Rattle.child_link.specs.Moves.{IsSameLink}
use Rattle.child_link.specs.Writings.{LoneWired}
use Rattle.ann_key.specs.Pairs.{Pairwise}
use Rattle.crew_work.specs.Laws.Posts.{pool_crew}
use Rattle.crew_work.specs.Laws.Rounds.{LinkValue, IsAtRest, Round}
use Rattle.crew_work.specs.Laws.Laws.{Distinct, children_of}
use Rattle.task_model.specs.declared.setup.Setup.{Setup}
use Rattle.crew_work.specs.Laws.JournalRuns.{HasJournalRun}
use Rattle.crew_work.specs.Worker.Works.{CanServe, TaskDone}
use Rattle.crew_rounds.specs.Tagged.Crewing.{DesksDid, calls_from}

-- each link is that of the child, and of the start, of the link at its place
abbrev pub AreSameLinks : List LinkValue → List LinkValue → Type 0
AreSameLinks links links' = Pairwise (λ (l l' : LinkValue). IsSameLink l.ear l'.ear l.mouth l'.mouth) links links'

-- the links and the desks are as before
abbrev pub AreAsBefore : {L K : Type 0} → List L → List L → List K → List K → Type 0
AreAsBefore links links' desks desks' = (links' ≡ links) × (desks' ≡ desks)

-- What Round says of a pool over these links, where each turn that was taken has its run in the journal, with the calls that its
-- worker's desk made for it; each desk made the calls of its worker's runs, in their order, and no others; and in the journal each
-- request to a child was written before a line answered it. The workers have the numbers from 2 on.
pub record PoolLeaves (o : Opening) (setup : Setup) (numbers : List ℕ) (start rest : List Entry) (links links' : List LinkValue) (desks desks' : List DeskTold) : Type 0 where
  pub dones : List (List TaskDone)
  pub round : Round o (HasJournalRun o setup (calls_from 2 dones)) (pool_crew (children_of links)) numbers start rest links'
  pub desks_did : DesksDid o setup start rest 2 dones desks desks'
  pub wired : All (λ (l : LinkValue). LoneWired (start ++ rest) l.ear l.mouth) links'
