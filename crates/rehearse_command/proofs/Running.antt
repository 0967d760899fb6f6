-- From what the workers did to what a rehearsal comes to.
use Rattle.ann_outside.specs.Told.{DeskTold}
use Rattle.std.proofs.Common.{◌≡◌, ◌⊎◌, ℕ, List, [], sym, subst, inl, inr, Bool, true, false, replicate, Ok, Err}
use Rattle.std.specs.Prelude.{Result}
use Rattle.ann_key.specs.declared.bytes.NoMemory.{NoMemory}
use Rattle.journal_model.specs.declared.answer.Answer.{Answer}
use Rattle.journal_model.specs.declared.entry.Entry.{Entry}
use Rattle.journal_model.specs.declared.opening.Opening.{Opening}
use Rattle.journal_model.specs.Journal.{any}
use Rattle.journal_model.proofs.Projecting.{parts_fit}
use Rattle.host_core.specs.Steps.{are_all_claimed}
use Rattle.task_model.specs.declared.setup.Setup.{Setup}
use Rattle.run_children.specs.JobRuns.{RanJobs}
use Rattle.run_children.proofs.Succeeding.{jobs_keep, jobs_succeed}
use Rattle.run_answers.specs.Answering.{AreAllAnswered}
use Rattle.run_answers.proofs.Answered.{all_answered}
use Rattle.run_starts.specs.Rounds.{IsWhole}
use Rattle.rehearse_command.specs.Rehearsals.{EndsRun, Finds, HasRun, IsRunOf, is_fault, setup, untold}
use Rattle.rehearse_command.specs.declared.made.RehearsalEnd.{RehearsalEnd}
use Rattle.rehearse_command.specs.declared.made.RehearsalEnd.TheVariants.{Memory, Done}

pub run_of : (o : Opening) (s : Setup) (may : Bool) (limit : ℕ) (journal : List Entry) (before after : List DeskTold) → s ≡ setup → may ≡ true → limit ≡ 1 → before ≡ replicate 4 untold
    → any is_fault journal ≡ false → RanJobs o s may limit journal before after → IsRunOf o journal
run_of o s may limit journal before after same offers once fresh quiet ran = record {
  desks = after;
  ran =
      subst (λ (ds : List DeskTold). RanJobs o setup true 1 journal ds after) fresh
      (subst (λ (n : ℕ). RanJobs o setup true n journal before after) once
      (subst (λ (b : Bool). RanJobs o setup b limit journal before after) offers
      (subst (λ (x : Setup). RanJobs o x may limit journal before after) same ran)));
  parts = parts_fit o journal ran.legal;
  succeeds = jobs_succeed o setup 1 journal [] journal 1 (replicate 4 untold) after;
  keeps = jobs_keep o setup journal ran.legal;
  faultless = quiet;
}

-- all was done
pub ends_done : (o : Opening) (journal : List Entry) (answers : List Answer) (end : RehearsalEnd) → IsRunOf o journal → are_all_claimed o journal ≡ true → Finds o journal answers end → EndsRun o journal answers end
ends_done o journal answers Memory run all h = (inr run, h)
ends_done o journal answers (Done found) run all h = record { run = run; all = all; answers_are = h.0; audit = h.1 }

pub has_run : (o : Opening) (journal : List Entry) (result : Result (Unit {0}) NoMemory) → IsRunOf o journal → IsWhole o journal result → HasRun o journal result
has_run o journal (Ok done) run all = (run, all)
has_run o journal (Err want) run all = inr run

-- ---- the end

-- each task was answered
pub answered_as : (o : Opening) (journal : List Entry) (result : Result (Unit {0}) NoMemory) (done : Unit {0}) → result ≡ Ok done → HasRun o journal result → AreAllAnswered o journal
answered_as o journal result done is h =
    let run : IsRunOf o journal × (are_all_claimed o journal ≡ true) = subst (HasRun o journal) is h in
    all_answered o journal run.0.ran.legal run.0.ran.calm.idle run.1

pub ends_as : (o : Opening) (journal journal' : List Entry) (answers : List Answer) (end : RehearsalEnd) (result : Result (Unit {0}) NoMemory) (done : Unit {0}) → journal' ≡ journal → result ≡ Ok done → HasRun o journal result
    → Finds o journal answers end → EndsRun o journal' answers end
ends_as o journal journal' answers end result done kept is h finds =
    let run : IsRunOf o journal × (are_all_claimed o journal ≡ true) = subst (HasRun o journal) is h in
    subst (λ (j : List Entry). EndsRun o j answers end) (sym kept) (ends_done o journal answers end run.0 run.1 finds)

-- no memory was found to start a child
pub ends_wanting : (o : Opening) (journal journal' : List Entry) (answers : List Answer) (end : RehearsalEnd) (result : Result (Unit {0}) NoMemory) (want : NoMemory) → journal' ≡ journal → answers ≡ [] → end ≡ Memory
    → result ≡ Err want → HasRun o journal result → EndsRun o journal' answers end
ends_wanting o journal journal' answers end result want kept none memory is h =
    let some : (journal ≡ []) ⊎ IsRunOf o journal = subst (HasRun o journal) is h in
    subst (EndsRun o journal' answers) (sym memory) (subst (λ (j : List Entry). (j ≡ []) ⊎ IsRunOf o j) (sym kept) some, none)
