-- Where a role of a round may begin, and what its run leaves.
use Rattle.ann_outside.specs.Told.{DeskTold}
use Rattle.std.specs.Prelude.{ℕ, ◌≡◌, Bool, true, false, List}
use Rattle.annex_model.specs.Lines.{has_newline}
use Rattle.task_text.specs.declared.task.Task.{Task}
use Rattle.threads.specs.Passes.{HallValue, IsPassOf, seen_of}
use Rattle.journal_model.specs.declared.entry.Entry.{Entry}
use Rattle.journal_model.specs.declared.opening.Opening.{Opening}
use Rattle.journal_model.specs.Halves.{EarValue, MouthValue, IsSameEar, IsSameMouth}
use Rattle.journal_model.specs.Journal.{is_started}
use Rattle.crew_work.specs.Laws.Rounds.{CorePass}
use Rattle.crew_work.specs.Laws.Tasks.{IsThrough}
use Rattle.host_core.specs.declared.event.Event.TheVariants.{Listen, Fetch}
use Rattle.host_core.specs.declared.event.Reply.TheVariants.{Over}
use Rattle.child_link.specs.Events.{Says}
use Rattle.child_link.specs.Moves.{EarMoved, MouthMoved}
use Rattle.task_model.specs.declared.setup.Setup.{Setup}
use Rattle.crew_work.specs.Worker.Works.{AreTasks, CanServe, Worked}

-- the pass is one of the hall, and has seen that the child was started
pub record CanHold (h : HallValue Entry Opening) (p : CorePass) (c : ℕ) : Type 0 where
  pub pass : IsPassOf h p
  pub started : is_started (seen_of p) c ≡ true

-- it is a pass of the hall still, with its number
pub record IsSamePass (h : HallValue Entry Opening) (p q : CorePass) : Type 0 where
  pub pass : IsPassOf h q
  pub number : q.number ≡ p.number

-- It heard until there is nothing more to hear: the core answers Over, at what the pass has seen.
pub record EarRan (h : HallValue Entry Opening) (p q : CorePass) (e f : EarValue) : Type 0 where
  pub pass : IsSamePass h p q
  pub moved : EarMoved p.number false (seen_of p) (seen_of q) e f
  pub same : IsSameEar e f
  pub over : Says h.fixed p.number (seen_of q) (Listen e.child) Over

-- it wrote until there is nothing more to write
pub record MouthRan (h : HallValue Entry Opening) (p q : CorePass) (m w : MouthValue) : Type 0 where
  pub pass : IsSamePass h p q
  pub moved : MouthMoved p.number false (seen_of p) (seen_of q) m w
  pub same : IsSameMouth m w
  pub over : Says h.fixed p.number (seen_of q) (Fetch m.child) Over

-- the tasks are the run's, which lines spell, and the folder's name has no line's end
pub record CanRunTasks (o : Opening) (tasks : List Task) (setup : Setup) : Type 0 where
  pub tasks_are : o.tasks ≡ tasks
  pub spelled : AreTasks tasks
  pub folder : has_newline setup.work ≡ false

pub record CanWork (h : HallValue Entry Opening) (p : CorePass) (tasks : List Task) (setup : Setup) (c : ℕ) : Type 0 where
  pub pass : IsPassOf h p
  pub run : CanRunTasks h.fixed tasks setup
  pub can : CanServe h.fixed c (seen_of p)

-- it worked until there was nothing more to do
pub record WorkerRan (h : HallValue Entry Opening) (setup : Setup) (p q : CorePass) (owns : Bool) (c : ℕ) (Before After : Type 0) (desk desk' : DeskTold) : Type 0 where
  pub pass : IsSamePass h p q
  pub worked : Worked h.fixed setup owns p.number false c (seen_of p) (seen_of q) Before After desk desk'
  pub through : IsThrough h.fixed (seen_of q) c
