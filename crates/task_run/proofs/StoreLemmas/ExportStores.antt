-- Runs of tasks that store content under a name.
use Rattle.std.proofs.Common.{◌≡◌, ◌∙◌, ℕ, List, [], ◌∷◌, refl, sym, subst, append-nil}
use Rattle.std.specs.Prelude.{true, false, Option, Some, Ok, Err, Result, unwrap_or}
use Rattle.ann_key.specs.Keys.{Parts, key_reading}
use Rattle.ann_key.specs.declared.bytes.NoMemory.{NoMemory}
use Rattle.journal_model.specs.declared.verdict.Verdict.{Verdict}
use Rattle.journal_model.specs.declared.verdict.Verdict.TheVariants.{Done, Failed, Absent, Unknown, Unsupported, Ended, Unsent}
use Rattle.annex_model.specs.Messages.{HostMessage, Transferexport}
use Rattle.task_text.specs.declared.task.Task.{Task}
use Rattle.task_text.specs.declared.task.Work.TheVariants as W
use Rattle.ann_outside.specs.Calls.{Log, logged}
use Rattle.ann_outside.specs.declared.file_desk.DeskError.{DeskError}
use Rattle.ann_outside.specs.declared.file_desk.DeskError.TheVariants as E
use Rattle.ann_outside.specs.declared.file_desk.Call.{Call}
use Rattle.ann_outside.specs.declared.file_desk.Call.TheVariants.{Size}
use Rattle.task_model.proofs.CopyingLemmas.CopyLaws.{gained_call, gained_without}
use Rattle.task_model.specs.Askers.{Asking, AsksOne}
use Rattle.journal_model.specs.declared.answer.Answer.{Answer}
use Rattle.journal_model.specs.declared.answer.Answer.TheVariants.{Memory, Stored, Size as SizeAnswer}
use Rattle.task_model.specs.declared.setup.Setup.{Setup}
use Rattle.task_model.specs.declared.turn.TaskTurn.{TaskTurn}
use Rattle.task_model.specs.Names.{part_of}
use Rattle.task_model.specs.Stores.{is_size}
use Rattle.task_model.specs.Exports.{AsksOfName, ExportStoreAsks, store_export}
use Rattle.task_model.specs.Runs.{RunOf}
use Rattle.task_model.specs.Ran.{RanGet, answered, is_verdict_of, change_answer, refusal}
use Rattle.task_model.proofs.Texts.{longer_differs}
use Rattle.task_model.proofs.ExportRuns.{with_work, export_run, named, asks_of_name, asks_nothing}
use Rattle.ann_key.proofs.Lists.{same_name, other_name}
use Rattle.ann_key.proofs.Booleans.{false_is_true as apart}

abbrev StoreRun : Setup → TaskTurn → Task → Parts → List (ℕ × ℕ) → List Asking → List Call → Answer → Type 0
StoreRun setup t task key layouts asked calls answer = RunOf setup t (with_work W.XStore task) key layouts asked calls [] answer

-- ---- nothing is asked

unasked : (key : Parts) (file name : List ℕ) (r : Result ℕ DeskError) → ExportStoreAsks key file name [] (Size file r ∷ [])
unasked key file name r = record { one_call = refl; of_file = rw (same_name file) refl; asks = asks_nothing _ _ name }

store_nothing : (setup : Setup) (t : TaskTurn) (task : Task) (key : Parts) (layouts : List (ℕ × ℕ)) → StoreRun setup t task key layouts [] [] Memory
store_nothing setup t task key layouts = record {
  asked_till_stop = refl;
  calls_till_stop = refl;
  found = refl;
  work = (record { one_call = refl; of_file = refl; asks = asks_nothing _ _ task.name }, refl);
  answered = tt;
}

store_refused : (setup : Setup) (t : TaskTurn) (task : Task) (key : Parts) (layouts : List (ℕ × ℕ)) (e : DeskError) → (e ≡ E.NoMemory → ⊥)
    → StoreRun setup t task key layouts [] (Size task.file (Err e) ∷ []) (answered (refusal e))
store_refused setup t task key layouts E.NoMemory ne = absurd (ne refl)
store_refused setup t task key layouts E.Failed ne = record {
  asked_till_stop = refl;
  calls_till_stop = refl;
  found = refl;
  work = (unasked key task.file task.name (Err E.Failed), refl);
  answered = refl;
}
store_refused setup t task key layouts E.Missing ne = record {
  asked_till_stop = refl;
  calls_till_stop = refl;
  found = refl;
  work = (unasked key task.file task.name (Err E.Missing), refl);
  answered = rw (other_name task.file (part_of task.file) (longer_differs task.file _ _)) refl;
}

store_unasked : (setup : Setup) (t : TaskTurn) (task : Task) (key : Parts) (layouts : List (ℕ × ℕ)) (n : ℕ) → StoreRun setup t task key layouts [] (Size task.file (Ok n) ∷ []) Memory
store_unasked setup t task key layouts n = record {
  asked_till_stop = refl;
  calls_till_stop = refl;
  found = refl;
  work = (unasked key task.file task.name (Ok n), refl);
  answered = tt;
}

store_other_size : (setup : Setup) (t : TaskTurn) (task : Task) (key : Parts) (layouts : List (ℕ × ℕ)) (n : ℕ) → is_size key.size n ≡ false
    → StoreRun setup t task key layouts [] (Size task.file (Ok n) ∷ []) (SizeAnswer n)
store_other_size setup t task key layouts n s = record {
  asked_till_stop = refl;
  calls_till_stop = refl;
  found = refl;
  work = (unasked key task.file task.name (Ok n), refl);
  answered = record { answered = rw (same_name task.file) (rw s refl) };
}

-- ---- the one request

asks_once : (key : Parts) (file name : List ℕ) (n : ℕ) (a : Asking) → is_size key.size n ≡ true → AsksOfName (store_export file) (key ∷ []) name (a ∷ [])
    → ExportStoreAsks key file name (a ∷ []) (Size file (Ok n) ∷ [])
asks_once key file name n a s h = record { one_call = refl; of_file = rw (same_name file) refl; asks = rw (same_name file) (rw s h) }

store_once : (setup : Setup) (t : TaskTurn) (task : Task) (key : Parts) (layouts : List (ℕ × ℕ)) (n : ℕ) (request : Option HostMessage) (v : Verdict) → is_size key.size n ≡ true
    → AsksOfName (store_export task.file) (key ∷ []) task.name (named task.name request v ∷ []) → is_verdict_of (Transferexport true task.key task.file) v ≡ true
    → StoreRun setup t task key layouts (named task.name request v ∷ []) (Size task.file (Ok n) ∷ []) (unwrap_or (change_answer Stored v) Memory)
store_once setup t task key layouts n request (Done at) s h k = record {
  asked_till_stop = refl;
  calls_till_stop = refl;
  found = refl;
  work = (asks_once key task.file task.name n (named task.name request (Done at)) s h, refl);
  answered = record { answered = rw (same_name task.file) (rw s refl) };
}
store_once setup t task key layouts n request (Failed at) s h k = record {
  asked_till_stop = refl;
  calls_till_stop = refl;
  found = refl;
  work = (asks_once key task.file task.name n (named task.name request (Failed at)) s h, refl);
  answered = record { answered = rw (same_name task.file) (rw s refl) };
}
store_once setup t task key layouts n request (Unsupported at) s h k = record {
  asked_till_stop = refl;
  calls_till_stop = refl;
  found = refl;
  work = (asks_once key task.file task.name n (named task.name request (Unsupported at)) s h, refl);
  answered = refl;
}
store_once setup t task key layouts n request (Ended why) s h k = record {
  asked_till_stop = refl;
  calls_till_stop = refl;
  found = refl;
  work = (asks_once key task.file task.name n (named task.name request (Ended why)) s h, refl);
  answered = refl;
}
store_once setup t task key layouts n request Unsent s h k = record {
  asked_till_stop = refl;
  calls_till_stop = refl;
  found = refl;
  work = (asks_once key task.file task.name n (named task.name request Unsent) s h, refl);
  answered = refl;
}
store_once setup t task key layouts n request (Absent at) s h k = apart k
store_once setup t task key layouts n request (Unknown at) s h k = apart k

-- ---- what the code promises

pub store_refused_ran : (task : Task) (t : TaskTurn) (setup : Setup) (layouts : List (ℕ × ℕ)) (pairs : List Asking) (old new : Option Log) (e : DeskError) → task.work ≡ W.XStore
    → new ≡ logged old (Size task.file (Err e)) → RanGet task t setup layouts pairs pairs old new (refusal e)
store_refused_ran task t setup layouts pairs old new E.NoMemory w l = record {
  asked = [];
  calls = [];
  pairs_are = sym (append-nil pairs);
  log_is = l ∙ gained_without old (Size task.file (Err E.NoMemory)) refl;
  run = export_run W.XStore task t setup layouts [] [] Memory w (λ key r. store_nothing setup t task key layouts);
}
store_refused_ran task t setup layouts pairs old new E.Failed w l = record {
  asked = [];
  calls = Size task.file (Err E.Failed) ∷ [];
  pairs_are = sym (append-nil pairs);
  log_is = l ∙ gained_call old (Size task.file (Err E.Failed)) refl;
  run = export_run W.XStore task t setup layouts [] (Size task.file (Err E.Failed) ∷ []) (answered (refusal E.Failed)) w (λ key r. store_refused setup t task key layouts E.Failed (λ e. cc));
}
store_refused_ran task t setup layouts pairs old new E.Missing w l = record {
  asked = [];
  calls = Size task.file (Err E.Missing) ∷ [];
  pairs_are = sym (append-nil pairs);
  log_is = l ∙ gained_call old (Size task.file (Err E.Missing)) refl;
  run = export_run W.XStore task t setup layouts [] (Size task.file (Err E.Missing) ∷ []) (answered (refusal E.Missing)) w (λ key r. store_refused setup t task key layouts E.Missing (λ e. cc));
}

pub store_unasked_ran : (task : Task) (t : TaskTurn) (setup : Setup) (layouts : List (ℕ × ℕ)) (pairs : List Asking) (old new : Option Log) (n : ℕ) (e : NoMemory) → task.work ≡ W.XStore
    → new ≡ logged old (Size task.file (Ok n)) → RanGet task t setup layouts pairs pairs old new (Err e)
store_unasked_ran task t setup layouts pairs old new n e w l = record {
  asked = [];
  calls = Size task.file (Ok n) ∷ [];
  pairs_are = sym (append-nil pairs);
  log_is = l ∙ gained_call old (Size task.file (Ok n)) refl;
  run = export_run W.XStore task t setup layouts [] (Size task.file (Ok n) ∷ []) Memory w (λ key r. store_unasked setup t task key layouts n);
}

pub store_other_size_ran : (task : Task) (t : TaskTurn) (setup : Setup) (layouts : List (ℕ × ℕ)) (pairs : List Asking) (old new : Option Log) (n : ℕ) (size : Option ℕ) → task.work ≡ W.XStore
    → ((key : Parts) → key_reading task.key ≡ Some key → key.size ≡ size) → is_size size n ≡ false
    → new ≡ logged old (Size task.file (Ok n)) → RanGet task t setup layouts pairs pairs old new (Ok (SizeAnswer n))
store_other_size_ran task t setup layouts pairs old new n size w sized s l = record {
  asked = [];
  calls = Size task.file (Ok n) ∷ [];
  pairs_are = sym (append-nil pairs);
  log_is = l ∙ gained_call old (Size task.file (Ok n)) refl;
  run = export_run W.XStore task t setup layouts [] (Size task.file (Ok n) ∷ []) (SizeAnswer n) w (λ key r. store_other_size setup t task key layouts n (rw (sized key r) s));
}

pub store_once_ran : (task : Task) (t : TaskTurn) (setup : Setup) (layouts : List (ℕ × ℕ)) (before after : List Asking) (old new : Option Log) (n : ℕ) (size : Option ℕ) (v : Verdict) (answer : Answer) → task.work ≡ W.XStore
    → ((key : Parts) → key_reading task.key ≡ Some key → key.size ≡ size) → is_size size n ≡ true
    → new ≡ logged old (Size task.file (Ok n)) → AsksOne before after (Some task.name) (Transferexport true task.key task.file) v
    → is_verdict_of (Transferexport true task.key task.file) v ≡ true → Some answer ≡ change_answer Stored v → RanGet task t setup layouts before after old new (Ok answer)
store_once_ran task t setup layouts before after old new n size v answer w sized s l a k is = record {
  asked = named task.name a.request v ∷ [];
  calls = Size task.file (Ok n) ∷ [];
  pairs_are = a.added;
  log_is = l ∙ gained_call old (Size task.file (Ok n)) refl;
  run = export_run W.XStore task t setup layouts (named task.name a.request v ∷ []) (Size task.file (Ok n) ∷ []) answer w
      (λ key r.
      let P : Option Answer → Type 0 = λ o. StoreRun setup t task key layouts (named task.name a.request v ∷ []) (Size task.file (Ok n) ∷ []) (unwrap_or o Memory) in
      subst P (sym is) (store_once setup t task key layouts n a.request v (rw (sized key r) s) (asks_of_name (store_export task.file) task.key task.name key a.request v r refl a.kept) k));
}
