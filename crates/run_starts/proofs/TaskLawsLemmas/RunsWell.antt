-- The tasks of a run that went well from outside.
use Rattle.std.proofs.Common.{◌≡◌, ◌∙◌, ℕ, Bool, true, List, [], ◌∷◌, ◌++◌, refl, sym, ap, subst}
use Rattle.std.specs.Prelude.{Some, slice_index_or}
use Rattle.std.specs.List.{list_all}
use Rattle.std.proofs.lemmas.Bool.{and_parts}
use Rattle.journal_model.specs.declared.answer.Answer.{Answer}
use Rattle.journal_model.specs.declared.entry.Entry.{Entry}
use Rattle.journal_model.specs.declared.entry.What.TheVariants.{Claim}
use Rattle.journal_model.specs.declared.opening.Opening.{Opening}
use Rattle.task_text.specs.declared.task.Task.{Task}
use Rattle.task_model.specs.Askers.{Asking}
use Rattle.task_model.specs.declared.setup.Setup.{Setup}
use Rattle.task_model.specs.Askings.{TaskStretch, askings_from, askings, closing, run_askings, run_notings, run_turn}
use Rattle.task_model.proofs.Askings.{askings_from-append}
use Rattle.run_starts.specs.TaskLaws.WentWell.{is_asked_well, WentWell, IsSuccess}
use Rattle.run_starts.specs.TaskLaws.RunWell.{TaskDone, AreAskedWell, RanWell, IsSucceeded, RunsSucceed}
use Rattle.run_starts.proofs.TaskLawsLemmas.WellTasks.{well_is_success}

front_of : {X : Type 0} (p : X → Bool) (xs ys : List X) → list_all p (xs ++ ys) ≡ true → list_all p xs ≡ true
front_of p [] ys h = refl
front_of p (x ∷ xs) ys h =
    let parts = and_parts (p x) (list_all p (xs ++ ys)) h in
    let one : p x ≡ true = parts.0 in
    let rest : list_all p xs ≡ true = front_of p xs ys parts.1 in
    rw (one, rest) refl

behind_of : {X : Type 0} (p : X → Bool) (xs ys : List X) → list_all p (xs ++ ys) ≡ true → list_all p ys ≡ true
behind_of p [] ys h = h
behind_of p (x ∷ xs) ys h = behind_of p xs ys (and_parts (p x) (list_all p (xs ++ ys)) h).1

-- what holds of all requests of the task holds of those of a run
pub run_asks : (p : Asking → Bool) (journal : List Entry) (t : ℕ) (run : TaskStretch journal t) → list_all p (askings journal t) ≡ true → list_all p (run_askings run) ≡ true
run_asks p journal t run h =
    let front : List Entry = run.past ++ record { by = run.by; what = Claim t run.child } ∷ run.within in
    let tail : List Entry = record { by = run.closed_by; what = closing run.renewed t run.answer } ∷ run.rest in
    let split : askings journal t ≡ askings_from journal t [] front ++ askings_from journal t front tail = ap (askings_from journal t []) run.is ∙ askings_from-append journal t [] front tail in
    let claimed : askings_from journal t [] front ≡ askings_from journal t [] run.past ++ run_askings run = askings_from-append journal t [] run.past (record { by = run.by; what = Claim t run.child } ∷ run.within) in
    let P : List Asking → Type 0 = λ x. list_all p x ≡ true in
    behind_of p (askings_from journal t [] run.past) (run_askings run) (subst P claimed (front_of p (askings_from journal t [] front) (askings_from journal t front tail) (subst P split h)))

pub one_succeeds : (o : Opening) (setup : Setup) (journal : List Entry) (r : TaskDone) → AreAskedWell o journal → RanWell o setup journal r → IsSucceeded o r
one_succeeds o setup journal r asked w task is =
    let same : Some w.run.task ≡ Some task = sym w.run.is ∙ is in
    let at : w.run.task ≡ task = cc in
    let P : Task → Type 0 = λ x. IsSuccess x.work r.answer in
    let Q : Answer → Type 0 = λ x. IsSuccess w.run.task.work x in
    let well : WentWell setup (run_turn w.run.run) w.run.task w.key w.run.layouts (run_askings w.run.run) r.calls =
    record { asked_well = run_asks (is_asked_well w.run.task.work) journal r.task w.run.run (asked r.task w.run.task w.run.is); desk = w.desk } in
    subst P at (subst Q w.answer_is (well_is_success w.run.task (run_turn w.run.run) setup w.run.layouts (run_askings w.run.run) r.calls (run_notings w.run.run) w.run.run.answer w.key w.keyed well w.run.ran))

pub runs_succeed : RunsSucceed
runs_succeed o setup journal done asked all k d h = one_succeeds o setup journal (slice_index_or done k d) asked (all k d h)
