-- What a run leaves, by as many workers as it has desks.
use Rattle.ann_outside.specs.Told.{DeskTold}
use Rattle.std.specs.Prelude.{ℕ, ◌≡◌, Bool, true, List, [], length}
use Rattle.std.specs.List.{list_all}
use Rattle.journal_model.specs.declared.entry.Entry.{Entry}
use Rattle.journal_model.specs.declared.opening.Opening.{Opening}
use Rattle.journal_model.specs.Legality.{Legal}
use Rattle.journal_model.specs.Shares.{are_by}
use Rattle.crew_work.specs.Laws.Rounds.{IsAtRest}
use Rattle.task_model.specs.declared.setup.Setup.{Setup}
use Rattle.run_starts.specs.Starting.{AreEnded}
use Rattle.run_starts.specs.Rounds.{AllLostWell, is_of_run}
use Rattle.run_children.specs.PoolChildren.Slots.{AreStarts}
use Rattle.run_children.specs.Desks.{DesksDid, HaveDesks}
use Rattle.run_children.specs.Posts.{AllPosted}

-- The journal is legal. Each child was started in its slot and its turn, and has ended. Job 0 and job 1 are the greeting's, each later one is a task's. The
-- main thread loses a request of no task in a greeting alone. What it didn't make was made at a post over some child, and one without tags
-- is one number's alone.
-- No task is left unanswered that was claimed, and no job open. Each task was run by the number that claimed it, with its worker's desk, which made the calls of
-- its tasks, in the order of their claims, and no others. With one desk, all entries are the main thread's.
pub record RanJobs (o : Opening) (setup : Setup) (may : Bool) (limit : ℕ) (journal : List Entry) (desks desks' : List DeskTold) : Type 0 where
  pub legal : Legal o journal
  pub starts : AreStarts o may limit (length desks) journal
  pub ended : AreEnded journal
  pub asks : list_all (λ e. is_of_run e.what) journal ≡ true
  pub lost : AllLostWell [] journal
  pub posts : AllPosted [] journal
  pub calm : IsAtRest journal
  pub placed : HaveDesks (length desks) [] journal
  pub did : DesksDid o setup limit journal [] journal 1 desks desks'
  pub alone : length desks ≡ 1 → are_by 0 journal ≡ true
