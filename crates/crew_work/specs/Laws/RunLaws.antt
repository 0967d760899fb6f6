-- The laws of rounds at Task run.
use Rattle.std.specs.Prelude.{ℕ, List}
use Rattle.journal_model.specs.declared.opening.Opening.{Opening}
use Rattle.ann_outside.specs.declared.file_desk.Call.{Call}
use Rattle.task_model.specs.declared.setup.Setup.{Setup}
use Rattle.crew_work.specs.Laws.Tasks.{Lasts}
use Rattle.crew_work.specs.Laws.Laws.{TaggedRound, PoolRound, AloneRound}
use Rattle.crew_work.specs.Laws.JournalRuns.{HasJournalRun}

-- a run stays, whatever comes later
abbrev pub RunsLast : Type 0
RunsLast = (o : Opening) (setup : Setup) (calls : ℕ → ℕ → ℕ → List Call) → Lasts (HasJournalRun o setup calls)

abbrev pub TaggedRuns : Type 0
TaggedRuns = (o : Opening) (setup : Setup) (calls : ℕ → ℕ → ℕ → List Call) → TaggedRound (HasJournalRun o setup calls)

abbrev pub PoolRuns : Type 0
PoolRuns = (o : Opening) (setup : Setup) (calls : ℕ → ℕ → ℕ → List Call) → PoolRound (HasJournalRun o setup calls)

abbrev pub AloneRuns : Type 0
AloneRuns = (o : Opening) (setup : Setup) (calls : ℕ → ℕ → ℕ → List Call) → AloneRound (HasJournalRun o setup calls)
