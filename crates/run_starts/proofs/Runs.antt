-- The tasks that are done in a stint.
use Rattle.ann_outside.specs.Told.{DeskTold}
use Rattle.std.proofs.Common.{◌≡◌, ℕ, Some, ◌<◌, List, [], ◌∷◌, ◌++◌, refl, sym, subst, ◌∙◌, false, inl, inr}
use Rattle.std.specs.Prelude.{Ok}
pub use Rattle.ann_outside.proofs.Gains.{gained_nothing, gained_more}
use Rattle.journal_model.specs.declared.answer.Answer.{Answer}
use Rattle.journal_model.specs.declared.entry.What.TheVariants.{Claim, Answer as Answered}
use Rattle.journal_model.specs.declared.entry.Entry.{Entry}
use Rattle.journal_model.specs.declared.opening.Opening.{Opening}
use Rattle.journal_model.specs.Legality.{turn_of_task}
use Rattle.task_model.specs.declared.setup.Setup.{Setup}
use Rattle.task_model.specs.Ran.{may_follow_refusal}
use Rattle.task_model.proofs.Causes.{from_nothing}
use Rattle.task_model.specs.TaskRuns.{failed_start}
use Rattle.crew_work.specs.Worker.Works.{AllRan, TaskDone}
use Rattle.crew_work.proofs.WorkerLemmas.Working.{run_lasts}
use Rattle.crew_work.specs.Laws.Tasks.{turns_by}
use Rattle.run_starts.specs.Rounds.{start_untaken}
use Rattle.run_starts.specs.Stints.{AllHaveRun, TasksDone, main_entry}

-- ---- over a child

-- what a worker ran
pub worker_runs : (o : Opening) (setup : Setup) (c : ℕ) (past more : List Entry) (rs : List TaskDone) → 0 < c → AllRan o setup 0 c past rs → AllHaveRun o setup (past ++ more) rs
worker_runs o setup c past more [] pos h = tt
worker_runs o setup c past more (r ∷ rs) pos h =
    let after = run_lasts o setup r.calls 0 c (record { task = r.task; turn = r.turn }) r.answer past more h.0 in (
      inl (record { run = after.run; child = subst (λ (k : ℕ). 0 < k) (sym after.child) pos; answer = after.answer_is }),
      worker_runs o setup c past more rs pos h.1,
    )

-- a stretch that claims the same
pub done_same : (o : Opening) (setup : Setup) (journal past past' xs ys : List Entry) (a b : DeskTold) → turns_by 0 past' ys ≡ turns_by 0 past xs
    → TasksDone o setup journal past xs a b → TasksDone o setup journal past' ys a b
done_same o setup journal past past' xs ys a b e k = record {
  done = k.done;
  claimed = k.claimed ∙ sym e;
  ran = k.ran;
  log_is = k.log_is;
  caused = k.caused;
}

-- ---- tasks without a child

-- an answer that tells of no call
abbrev pub IsOfNoCall : Answer → Type 0
IsOfNoCall answer = may_follow_refusal (Ok answer) ≡ false

-- the task was claimed after past and answered so
pub done_zero : (o : Opening) (setup : Setup) (journal past rest : List Entry) (t : ℕ) (answer : Answer) (desk : DeskTold)
    → journal ≡ past ++ main_entry (Claim t 0) ∷ main_entry (Answered t answer) ∷ rest → failed_start past (start_untaken past) ≡ Some answer → IsOfNoCall answer
    → TasksDone o setup journal past (main_entry (Claim t 0) ∷ main_entry (Answered t answer) ∷ []) desk desk
done_zero o setup journal past rest t answer desk is failed quiet = record {
  done = record { task = t; turn = turn_of_task past t; calls = []; answer = answer; counts = desk.counts } ∷ [];
  claimed = refl;
  ran = (inr (record { past = past; rest = rest; is = is; failed = failed }, refl), tt);
  log_is = gained_nothing desk.log;
  caused = (from_nothing desk.counts (Ok answer) quiet, refl);
}
