-- Runs of tasks that check, remove or rename what is there under a name.
use Rattle.std.proofs.Common.{◌≡◌, ℕ, true, false, List, [], ◌∷◌, refl, sym, subst, append-nil}
use Rattle.std.specs.Prelude.{Option, Some, Ok, Err, unwrap_or}
use Rattle.ann_key.specs.Keys.{Parts, key_reading}
use Rattle.ann_key.specs.declared.bytes.NoMemory.{NoMemory}
use Rattle.annex_model.specs.Messages.{HostMessage, Checkpresentexport, Removeexport, Renameexport}
use Rattle.journal_model.specs.declared.answer.Answer.{Answer}
use Rattle.journal_model.specs.declared.answer.Answer.TheVariants as A
use Rattle.journal_model.specs.declared.verdict.Verdict.{Verdict}
use Rattle.journal_model.specs.declared.verdict.Verdict.TheVariants as V
use Rattle.task_text.specs.declared.task.Task.{Task}
use Rattle.task_text.specs.declared.task.Work.{Work}
use Rattle.task_text.specs.declared.task.Work.TheVariants as W
use Rattle.task_model.specs.Askers.{Asking, AsksOne}
use Rattle.task_model.specs.declared.setup.Setup.{Setup}
use Rattle.task_model.specs.declared.turn.TaskTurn.{TaskTurn}
use Rattle.task_model.specs.TaskRuns.{check_answer}
use Rattle.task_model.specs.Exports.{AsksOfName, check_export, remove_export, rename_export}
use Rattle.task_model.specs.Runs.{RunOf}
use Rattle.task_model.specs.Ran.{RanAsking, is_verdict_of, change_answer, may_follow_refusal}
use Rattle.task_model.proofs.ExportRuns.{with_work, export_run, named, asks_of_name, asks_nothing}
use Rattle.ann_key.proofs.Booleans.{false_is_true as apart}

abbrev AskRun : Work → Setup → TaskTurn → Task → Parts → List (ℕ × ℕ) → List Asking → Answer → Type 0
AskRun work setup t task key layouts asked answer = RunOf setup t (with_work work task) key layouts asked [] [] answer

-- where it holds of any reading of the key, the pairs grew by a run of the task
one_ran : (work : Work) (task : Task) (t : TaskTurn) (layouts : List (ℕ × ℕ)) (before after : List Asking) (q : HostMessage) (v : Verdict) (answer : Answer) (o : Option Answer) → task.work ≡ work → Some answer ≡ o → (a : AsksOne before after (Some task.name) q v)
    → ((key : Parts) → key_reading task.key ≡ Some key → (setup : Setup) → AskRun work setup t task key layouts (named task.name a.request v ∷ []) (unwrap_or o A.Memory)) → RanAsking task t layouts before after (Ok answer)
one_ran work task t layouts before after q v answer o w is a h = record {
  asked = named task.name a.request v ∷ [];
  pairs_are = a.added;
  run = λ setup. export_run work task t setup layouts (named task.name a.request v ∷ []) [] answer w (λ key r.
      let P : Option Answer → Type 0 = λ o. AskRun work setup t task key layouts (named task.name a.request v ∷ []) (unwrap_or o A.Memory) in
      subst P (sym is) (h key r setup));
}

none_ran : (work : Work) (task : Task) (t : TaskTurn) (layouts : List (ℕ × ℕ)) (pairs : List Asking) (e : NoMemory) → task.work ≡ work
    → ((key : Parts) (setup : Setup) → AskRun work setup t task key layouts [] A.Memory) → RanAsking task t layouts pairs pairs (Err e)
none_ran work task t layouts pairs e w h = record {
  asked = [];
  pairs_are = sym (append-nil pairs);
  run = λ setup. export_run work task t setup layouts [] [] A.Memory w (λ key r. h key setup);
}

-- ---- checks

check_once : (setup : Setup) (t : TaskTurn) (task : Task) (key : Parts) (layouts : List (ℕ × ℕ)) (request : Option HostMessage) (v : Verdict) → AsksOfName check_export (key ∷ []) task.name (named task.name request v ∷ [])
    → is_verdict_of (Checkpresentexport task.key) v ≡ true → AskRun W.XCheck setup t task key layouts (named task.name request v ∷ []) (unwrap_or (check_answer v) A.Memory)
check_once setup t task key layouts request (V.Done at) h k = record { asked_till_stop = refl; calls_till_stop = refl; found = refl; work = (h, refl, refl); answered = record { found = refl } }
check_once setup t task key layouts request (V.Absent at) h k = record { asked_till_stop = refl; calls_till_stop = refl; found = refl; work = (h, refl, refl); answered = record { found = (refl, refl) } }
check_once setup t task key layouts request (V.Unknown at) h k = record { asked_till_stop = refl; calls_till_stop = refl; found = refl; work = (h, refl, refl); answered = record { found = (refl, refl) } }
check_once setup t task key layouts request (V.Unsupported at) h k = record { asked_till_stop = refl; calls_till_stop = refl; found = refl; work = (h, refl, refl); answered = refl }
check_once setup t task key layouts request (V.Ended why) h k = record { asked_till_stop = refl; calls_till_stop = refl; found = refl; work = (h, refl, refl); answered = refl }
check_once setup t task key layouts request V.Unsent h k = record { asked_till_stop = refl; calls_till_stop = refl; found = refl; work = (h, refl, refl); answered = refl }
check_once setup t task key layouts request (V.Failed at) h k = apart k

pub check_ran : (task : Task) (t : TaskTurn) (layouts : List (ℕ × ℕ)) (before after : List Asking) (v : Verdict) (answer : Answer) → task.work ≡ W.XCheck → AsksOne before after (Some task.name) (Checkpresentexport task.key) v
    → is_verdict_of (Checkpresentexport task.key) v ≡ true → Some answer ≡ check_answer v → RanAsking task t layouts before after (Ok answer)
check_ran task t layouts before after v answer w a k is =
    one_ran W.XCheck task t layouts before after (Checkpresentexport task.key) v answer (check_answer v) w is a
    (λ key r setup. check_once setup t task key layouts a.request v (asks_of_name check_export task.key task.name key a.request v r refl a.kept) k)

pub check_none : (task : Task) (t : TaskTurn) (layouts : List (ℕ × ℕ)) (pairs : List Asking) (e : NoMemory) → task.work ≡ W.XCheck → RanAsking task t layouts pairs pairs (Err e)
check_none task t layouts pairs e w = none_ran W.XCheck task t layouts pairs e w
    (λ key setup. record { asked_till_stop = refl; calls_till_stop = refl; found = refl; work = (asks_nothing _ _ task.name, refl, refl); answered = tt })

-- ---- drops

drop_once : (setup : Setup) (t : TaskTurn) (task : Task) (key : Parts) (layouts : List (ℕ × ℕ)) (request : Option HostMessage) (v : Verdict) → AsksOfName remove_export (key ∷ []) task.name (named task.name request v ∷ [])
    → is_verdict_of (Removeexport task.key) v ≡ true → AskRun W.XDrop setup t task key layouts (named task.name request v ∷ []) (unwrap_or (change_answer A.Dropped v) A.Memory)
drop_once setup t task key layouts request (V.Done at) h k = record { asked_till_stop = refl; calls_till_stop = refl; found = refl; work = (h, refl, refl); answered = refl }
drop_once setup t task key layouts request (V.Failed at) h k = record { asked_till_stop = refl; calls_till_stop = refl; found = refl; work = (h, refl, refl); answered = refl }
drop_once setup t task key layouts request (V.Unsupported at) h k = record { asked_till_stop = refl; calls_till_stop = refl; found = refl; work = (h, refl, refl); answered = refl }
drop_once setup t task key layouts request (V.Ended why) h k = record { asked_till_stop = refl; calls_till_stop = refl; found = refl; work = (h, refl, refl); answered = refl }
drop_once setup t task key layouts request V.Unsent h k = record { asked_till_stop = refl; calls_till_stop = refl; found = refl; work = (h, refl, refl); answered = refl }
drop_once setup t task key layouts request (V.Absent at) h k = apart k
drop_once setup t task key layouts request (V.Unknown at) h k = apart k

pub drop_ran : (task : Task) (t : TaskTurn) (layouts : List (ℕ × ℕ)) (before after : List Asking) (v : Verdict) (answer : Answer) → task.work ≡ W.XDrop → AsksOne before after (Some task.name) (Removeexport task.key) v
    → is_verdict_of (Removeexport task.key) v ≡ true → Some answer ≡ change_answer A.Dropped v → RanAsking task t layouts before after (Ok answer)
drop_ran task t layouts before after v answer w a k is =
    one_ran W.XDrop task t layouts before after (Removeexport task.key) v answer (change_answer A.Dropped v) w is a
    (λ key r setup. drop_once setup t task key layouts a.request v (asks_of_name remove_export task.key task.name key a.request v r refl a.kept) k)

pub drop_none : (task : Task) (t : TaskTurn) (layouts : List (ℕ × ℕ)) (pairs : List Asking) (e : NoMemory) → task.work ≡ W.XDrop → RanAsking task t layouts pairs pairs (Err e)
drop_none task t layouts pairs e w = none_ran W.XDrop task t layouts pairs e w
    (λ key setup. record { asked_till_stop = refl; calls_till_stop = refl; found = refl; work = (asks_nothing _ _ task.name, refl, refl); answered = tt })

-- ---- new names

rename_once : (setup : Setup) (t : TaskTurn) (task : Task) (key : Parts) (layouts : List (ℕ × ℕ)) (request : Option HostMessage) (v : Verdict) → AsksOfName (rename_export task.onto) (key ∷ []) task.name (named task.name request v ∷ [])
    → is_verdict_of (Renameexport task.key task.onto) v ≡ true → AskRun W.XRename setup t task key layouts (named task.name request v ∷ []) (unwrap_or (change_answer A.Renamed v) A.Memory)
rename_once setup t task key layouts request (V.Done at) h k = record { asked_till_stop = refl; calls_till_stop = refl; found = refl; work = (h, refl, refl); answered = refl }
rename_once setup t task key layouts request (V.Failed at) h k = record { asked_till_stop = refl; calls_till_stop = refl; found = refl; work = (h, refl, refl); answered = refl }
rename_once setup t task key layouts request (V.Unsupported at) h k = record { asked_till_stop = refl; calls_till_stop = refl; found = refl; work = (h, refl, refl); answered = refl }
rename_once setup t task key layouts request (V.Ended why) h k = record { asked_till_stop = refl; calls_till_stop = refl; found = refl; work = (h, refl, refl); answered = refl }
rename_once setup t task key layouts request V.Unsent h k = record { asked_till_stop = refl; calls_till_stop = refl; found = refl; work = (h, refl, refl); answered = refl }
rename_once setup t task key layouts request (V.Absent at) h k = apart k
rename_once setup t task key layouts request (V.Unknown at) h k = apart k

pub rename_ran : (task : Task) (t : TaskTurn) (layouts : List (ℕ × ℕ)) (before after : List Asking) (v : Verdict) (answer : Answer) → task.work ≡ W.XRename → AsksOne before after (Some task.name) (Renameexport task.key task.onto) v
    → is_verdict_of (Renameexport task.key task.onto) v ≡ true → Some answer ≡ change_answer A.Renamed v → RanAsking task t layouts before after (Ok answer)
rename_ran task t layouts before after v answer w a k is =
    one_ran W.XRename task t layouts before after (Renameexport task.key task.onto) v answer (change_answer A.Renamed v) w is a
    (λ key r setup. rename_once setup t task key layouts a.request v (asks_of_name (rename_export task.onto) task.key task.name key a.request v r refl a.kept) k)

pub rename_none : (task : Task) (t : TaskTurn) (layouts : List (ℕ × ℕ)) (pairs : List Asking) (e : NoMemory) → task.work ≡ W.XRename → RanAsking task t layouts pairs pairs (Err e)
rename_none task t layouts pairs e w = none_ran W.XRename task t layouts pairs e w
    (λ key setup. record { asked_till_stop = refl; calls_till_stop = refl; found = refl; work = (asks_nothing _ _ task.name, refl, refl); answered = tt })

-- ---- their answers tell of no call of a desk

pub change_quiet : (success : Answer) (v : Verdict) (answer : Answer) → may_follow_refusal (Ok success) ≡ false → Some answer ≡ change_answer success v → may_follow_refusal (Ok answer) ≡ false
change_quiet success (V.Done at) answer q e = let s : answer ≡ success = cc in rw s q
change_quiet success (V.Failed at) answer q e = let s : answer ≡ A.Failed at = cc in rw s refl
change_quiet success (V.Unsupported at) answer q e = let s : answer ≡ A.Unsupported = cc in rw s refl
change_quiet success (V.Ended why) answer q e = let s : answer ≡ A.Ended why = cc in rw s refl
change_quiet success V.Unsent answer q e = let s : answer ≡ A.Unsent = cc in rw s refl
change_quiet success (V.Absent at) answer q e = cc
change_quiet success (V.Unknown at) answer q e = cc
