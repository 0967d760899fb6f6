-- What a run is handed, and where it may begin.
use Rattle.std.specs.Prelude.{ℕ, ◌≡◌, ◌<◌, ◌≤◌, ◌*◌, false, List, []}
use Rattle.annex_model.specs.Lines.{has_newline}
use Rattle.journal_model.specs.declared.entry.Entry.{Entry}
use Rattle.journal_model.specs.declared.opening.Opening.{Opening}
use Rattle.child_link.specs.Wires.{WireValue}
use Rattle.task_text.specs.declared.task.Task.{Task}
use Rattle.task_model.specs.declared.setup.Setup.{Setup}
use Rattle.crew_work.specs.Worker.Works.{AreTasks}

-- The tasks are those of the opening, each one that some line spells, and no line ends in the folder's name.
pub record IsHanded (o : Opening) (handed : List Task) (setup : Setup) : Type 0 where
  pub tasks : (o.tasks ≡ handed) × AreTasks handed
  pub folder : has_newline setup.work ≡ false

-- a run has 1 to 64 desks
abbrev pub AreDesks : ℕ → Type 0
AreDesks n = (0 < n) × (n ≤ 64)

-- Nothing was done, slot 0 has 1 to 16 starts, and there is room for a wire of each child that they and the desks may need.
pub record MayRun (journal : List Entry) (limit many : ℕ) (wires : List WireValue) (capacity : ℕ) : Type 0 where
  pub empty : journal ≡ []
  pub starts : (0 < limit) × (limit ≤ 16)
  pub desks : AreDesks many
  pub none : wires ≡ []
  pub room : limit * many ≤ capacity
