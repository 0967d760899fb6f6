-- What a round over one tagged child leaves, with its desks.
use Rattle.ann_outside.specs.Told.{DeskTold}
use Rattle.std.specs.Prelude.{ℕ, ◌≡◌, List, [], ◌∷◌, Some, map, slice_get}
use Rattle.threads.specs.Passes.{HallValue, seen_of}
use Rattle.journal_model.specs.declared.entry.Entry.{Entry}
use Rattle.journal_model.specs.declared.opening.Opening.{Opening}
use Rattle.journal_model.specs.Legality.{Legal}
use Rattle.crew_work.specs.Laws.Posts.{tagged_crew}
use Rattle.crew_work.specs.Laws.Tasks.{IsThrough}
use Rattle.crew_work.specs.Laws.Rounds.{CorePass, LinkValue, KeepsPost, EarEnds, MouthEnds, IsAtRest, Round}
use Rattle.crew_work.specs.Laws.Laws.{GoesOn, MayBeginTagged, Over, numbers_of}
use Rattle.task_model.specs.declared.setup.Setup.{Setup}
use Rattle.crew_work.specs.Worker.Works.{TaskDone}
use Rattle.crew_work.specs.Laws.JournalRuns.{HasJournalRun}
use Rattle.crew_rounds.specs.Tagged.Crewing.{AllManned, DesksDid, WorkerTells, calls_from}

abbrev pub passes_of : List WorkerTells → List CorePass
passes_of es = map (λ (e : WorkerTells). e.pass) es

abbrev pub desks_of : List WorkerTells → List DeskTold
desks_of es = map (λ (e : WorkerTells). e.desk) es

-- What Round says of a tagged crew over this link, where each turn that was taken has its run in the journal, with the calls that
-- its worker's desk made for it; and each desk made the calls of its worker's runs, in their order, and no others. The workers have
-- the numbers from 4 on.
pub record TaggedLeaves (o : Opening) (setup : Setup) (numbers : List ℕ) (start rest : List Entry) (l : LinkValue) (desks desks' : List DeskTold) : Type 0 where
  pub dones : List (List TaskDone)
  pub round : Round o (HasJournalRun o setup (calls_from 4 dones)) (tagged_crew l.ear.child) numbers start rest (l ∷ [])
  pub desks_did : DesksDid o setup start rest 4 dones desks desks'

-- What the roles of a round over a tagged child leave gives that, when the hall is closed. One of the passes is through.
abbrev pub TaggedCloses : Type 0
TaggedCloses =
    (h : HallValue Entry Opening) (setup : Setup) (final : List Entry) (fixed : Opening) (l : LinkValue) (main ear mouth : CorePass) (desks : List DeskTold) (workers : List WorkerTells)
    → Over h (main ∷ ear ∷ mouth ∷ passes_of workers) final fixed
    → Legal h.fixed h.start → IsAtRest h.start → MayBeginTagged h.start l.ear.child → l.mouth.child ≡ l.ear.child
    → main.number ≡ 1 → ear.number ≡ 2 → mouth.number ≡ 3
    → KeepsPost (tagged_crew l.ear.child) main → EarEnds (tagged_crew l.ear.child) l.ear ear → MouthEnds (tagged_crew l.ear.child) l.mouth mouth
    → AllManned h setup l.ear.child 4 desks workers
    → (i : ℕ) (p : CorePass) → slice_get (main ∷ ear ∷ mouth ∷ passes_of workers) i ≡ Some p → IsThrough h.fixed (seen_of p) l.ear.child
    → GoesOn h.start final (λ rest. TaggedLeaves h.fixed setup (numbers_of (main ∷ ear ∷ mouth ∷ passes_of workers)) h.start rest l desks (desks_of workers))
