-- Runs of tasks that store content whole.
use Rattle.std.proofs.Common.{◌≡◌, ◌∙◌, ℕ, List, [], ◌∷◌, refl, sym, ap, subst, append-nil}
use Rattle.std.specs.Prelude.{Bool, true, false, ◌&&◌, not, ◌==◌, Option, Some, None, Result, Ok, Err}
use Rattle.std.specs.List.{list_any}
use Rattle.ann_key.specs.Keys.{Parts, key_reading}
use Rattle.ann_key.specs.declared.bytes.NoMemory.{NoMemory}
use Rattle.journal_model.specs.declared.verdict.Verdict.{Verdict}
use Rattle.journal_model.specs.declared.verdict.Verdict.TheVariants.{Done, Failed, Absent, Unknown, Unsupported, Ended, Unsent}
use Rattle.annex_model.specs.Lines.{has_newline}
use Rattle.annex_model.specs.Messages.{HostMessage, Transfer}
use Rattle.task_text.specs.declared.task.Task.{Task}
use Rattle.task_text.specs.declared.task.Work.TheVariants as W
use Rattle.ann_outside.specs.Calls.{Log, logged}
use Rattle.ann_outside.specs.declared.file_desk.DeskError.{DeskError}
use Rattle.ann_outside.specs.declared.file_desk.DeskError.TheVariants as E
use Rattle.ann_outside.specs.declared.file_desk.Call.{Call}
use Rattle.ann_outside.specs.declared.file_desk.Call.TheVariants.{Size}
use Rattle.task_model.proofs.CopyingLemmas.CopyLaws.{gained_call, gained_without}
use Rattle.task_model.specs.Askers.{Asking, KeepsRequest, AsksOne}
use Rattle.journal_model.specs.declared.answer.Answer.{Answer}
use Rattle.journal_model.specs.declared.answer.Answer.TheVariants.{Memory, Stored, Size as SizeAnswer}
use Rattle.task_model.specs.declared.setup.Setup.{Setup}
use Rattle.task_model.specs.declared.turn.TaskTurn.{TaskTurn}
use Rattle.task_model.specs.Names.{part_of}
use Rattle.task_model.specs.Requests.{AsksFor, key_named}
use Rattle.task_model.specs.Stops.{is_question}
use Rattle.task_model.specs.Stores.{store_request, is_size, PlainStoreAsks}
use Rattle.task_model.specs.Runs.{RunOf, TaskRun, is_chunked}
use Rattle.task_model.specs.TaskCalls.{StoreCalls}
use Rattle.task_model.specs.Ran.{RanPlain, answered, is_verdict_of, change_answer, refusal}
use Rattle.std.specs.Prelude.{unwrap_or}
use Rattle.task_model.proofs.Texts.{longer_differs}
use Rattle.task_model.proofs.PlainRuns.{of_reading}
use Rattle.task_model.proofs.NamedRuns.{with_names}
use Rattle.task_text.specs.Works.{has_name}
use Rattle.ann_key.proofs.Lists.{same_name, other_name}
use Rattle.ann_key.proofs.Booleans.{false_is_true as apart}
use Rattle.task_run.proofs.StoreLemmas.ChunkStoreEnds.{as_store}

asks_for_store : (text file : List ℕ) (key : Parts) (request : Option HostMessage) (v : Verdict) (n : ℕ) → key_reading text ≡ Some key
    → KeepsRequest (Transfer true text file) request v → AsksFor (store_request file) n key (record { request = request; name = None; verdict = v })
asks_for_store text file key None v n e k = k
asks_for_store text file key (Some q) v n e k = rw k (refl, e)

-- the length is asked of the file alone
store_calls : (setup : Setup) (t : TaskTurn) (file : List ℕ) (asked : List Asking) (r : Result ℕ DeskError) → StoreCalls setup t file asked (Size file r ∷ [])
store_calls setup t file asked r = record { names = rw (same_name file) refl; changes = refl; lengths = rw (same_name file) refl }

abbrev store_task : List ℕ → List ℕ → Task
store_task text file = record { work = W.Store; key = text; file = file; name = []; onto = [] }

store_refused : (setup : Setup) (t : TaskTurn) (key : Parts) (text file : List ℕ) (e : DeskError) → is_chunked setup key ≡ false → (e ≡ E.NoMemory → ⊥)
    → RunOf setup t (store_task text file) key [] [] (Size file (Err e) ∷ []) [] (answered (refusal e))
store_refused setup t key text file E.NoMemory w ne = absurd (ne refl)
store_refused setup t key text file E.Failed w ne = record {
  asked_till_stop = refl;
  calls_till_stop = refl;
  found = refl;
  work = (store_calls setup t file [] (Err E.Failed), rw w (record { one_call = refl; in_order = tt }, refl));
  answered = refl;
}
store_refused setup t key text file E.Missing w ne = record {
  asked_till_stop = refl;
  calls_till_stop = refl;
  found = refl;
  work = (store_calls setup t file [] (Err E.Missing), rw w (record { one_call = refl; in_order = tt }, refl));
  answered = rw (other_name file (part_of file) (longer_differs file _ _)) refl;
}

store_nothing : (setup : Setup) (t : TaskTurn) (key : Parts) (text file : List ℕ) → is_chunked setup key ≡ false → RunOf setup t (store_task text file) key [] [] [] [] Memory
store_nothing setup t key text file w = record {
  asked_till_stop = refl;
  calls_till_stop = refl;
  found = refl;
  work = (record { names = refl; changes = refl; lengths = refl }, rw w (record { one_call = refl; in_order = tt }, refl));
  answered = tt;
}

store_unasked : (setup : Setup) (t : TaskTurn) (key : Parts) (text file : List ℕ) (n : ℕ) → is_chunked setup key ≡ false
    → RunOf setup t (store_task text file) key [] [] (Size file (Ok n) ∷ []) [] Memory
store_unasked setup t key text file n w = record {
  asked_till_stop = refl;
  calls_till_stop = refl;
  found = refl;
  work = (store_calls setup t file [] (Ok n), rw w (record { one_call = refl; in_order = tt }, refl));
  answered = tt;
}

store_other_size : (setup : Setup) (t : TaskTurn) (key : Parts) (text file : List ℕ) (n : ℕ) → is_chunked setup key ≡ false → is_size key.size n ≡ false
    → RunOf setup t (store_task text file) key [] [] (Size file (Ok n) ∷ []) [] (SizeAnswer n)
store_other_size setup t key text file n w s = record {
  asked_till_stop = refl;
  calls_till_stop = refl;
  found = refl;
  work = (store_calls setup t file [] (Ok n), rw w (record { one_call = refl; in_order = tt }, refl));
  answered = rw w (record { answered = rw (same_name file) (rw s refl) });
}

store_asks : (key : Parts) (file : List ℕ) (n : ℕ) (a : Asking) → is_size key.size n ≡ true → AsksFor (store_request file) 1 key a
    → PlainStoreAsks key file (a ∷ []) (Size file (Ok n) ∷ [])
store_asks key file n a s h = record { one_call = refl; in_order = rw (same_name file) (rw s (h, tt)) }

no_question : (file : List ℕ) (q : HostMessage) (v : Verdict) (n : ℕ) → q ≡ store_request file n (key_named q) → is_question (record { request = Some q; name = None; verdict = v }) ≡ false
no_question file q v n e = rw e refl

store_once : (setup : Setup) (t : TaskTurn) (key : Parts) (text file : List ℕ) (n : ℕ) (request : Option HostMessage) (v : Verdict)
    → is_chunked setup key ≡ false → is_size key.size n ≡ true
    → AsksFor (store_request file) 1 key (record { request = request; name = None; verdict = v }) → is_verdict_of (Transfer true text file) v ≡ true
    → RunOf setup t (store_task text file) key [] (record { request = request; name = None; verdict = v } ∷ []) (Size file (Ok n) ∷ []) [] (unwrap_or (change_answer Stored v) Memory)
store_once setup t key text file n request (Done at) w s h k = record {
  asked_till_stop = refl;
  calls_till_stop = refl;
  found = refl;
  work = (store_calls setup t file (record { request = request; name = None; verdict = Done at } ∷ []) (Ok n), rw w (store_asks key file n (record { request = request; name = None; verdict = Done at }) s h, refl));
  answered = rw w (record { answered = rw (same_name file) (rw s refl) });
}
store_once setup t key text file n request (Failed at) w s h k = record {
  asked_till_stop = refl;
  calls_till_stop = refl;
  found = refl;
  work = (store_calls setup t file (record { request = request; name = None; verdict = Failed at } ∷ []) (Ok n), rw w (store_asks key file n (record { request = request; name = None; verdict = Failed at }) s h, refl));
  answered = rw w (record { answered = rw (same_name file) (rw s refl) });
}
store_once setup t key text file n request (Ended why) w s h k = record {
  asked_till_stop = refl;
  calls_till_stop = refl;
  found = refl;
  work = (store_calls setup t file (record { request = request; name = None; verdict = Ended why } ∷ []) (Ok n), rw w (store_asks key file n (record { request = request; name = None; verdict = Ended why }) s h, refl));
  answered = refl;
}
store_once setup t key text file n request Unsent w s h k = record {
  asked_till_stop = refl;
  calls_till_stop = refl;
  found = refl;
  work = (store_calls setup t file (record { request = request; name = None; verdict = Unsent } ∷ []) (Ok n), rw w (store_asks key file n (record { request = request; name = None; verdict = Unsent }) s h, refl));
  answered = refl;
}
store_once setup t key text file n None (Unsupported at) w s h k = apart h
store_once setup t key text file n (Some q) (Unsupported at) w s h k = record {
  asked_till_stop = refl;
  calls_till_stop = refl;
  found = refl;
  work = (store_calls setup t file (record { request = Some q; name = None; verdict = Unsupported at } ∷ []) (Ok n), rw w (store_asks key file n (record { request = Some q; name = None; verdict = Unsupported at }) s h, refl));
  answered = rw (no_question file q (Unsupported at) 1 h.0) refl;
}
store_once setup t key text file n request (Absent at) w s h k = apart k
store_once setup t key text file n request (Unknown at) w s h k = apart k

-- a run of the task as a store is one of the task
store_run : (task : Task) (t : TaskTurn) (setup : Setup) (asked : List Asking) (calls : List Call) (answer : Answer) → task.work ≡ W.Store
    → ((key : Parts) → key_reading task.key ≡ Some key → RunOf setup t (store_task task.key task.file) key [] asked calls [] answer)
    → TaskRun task t setup [] asked calls [] answer
store_run task t setup asked calls answer w h =
    let P : Task → Type 0 = λ j. TaskRun j t setup [] asked calls [] answer in
    with_names task t setup [] asked calls [] answer (ap has_name w)
    (subst P (sym (as_store task w)) (of_reading task.key (λ key. RunOf setup t (store_task task.key task.file) key [] asked calls [] answer) h))

pub store_refused_ran : (task : Task) (t : TaskTurn) (pairs : List Asking) (old new : Option Log) (e : DeskError) → task.work ≡ W.Store
    → new ≡ logged old (Size task.file (Err e)) → RanPlain task t [] pairs pairs old new (refusal e)
store_refused_ran task t pairs old new E.NoMemory w l = record {
  asked = [];
  calls = [];
  pairs_are = sym (append-nil pairs);
  log_is = l ∙ gained_without old (Size task.file (Err E.NoMemory)) refl;
  run = λ setup whole. store_run task t setup [] [] Memory w (λ key r. store_nothing setup t key task.key task.file (whole key r));
}
store_refused_ran task t pairs old new E.Failed w l = record {
  asked = [];
  calls = Size task.file (Err E.Failed) ∷ [];
  pairs_are = sym (append-nil pairs);
  log_is = l ∙ gained_call old (Size task.file (Err E.Failed)) refl;
  run = λ setup whole. store_run task t setup [] (Size task.file (Err E.Failed) ∷ []) (answered (refusal E.Failed)) w (λ key r. store_refused setup t key task.key task.file E.Failed (whole key r) (λ e. cc));
}
store_refused_ran task t pairs old new E.Missing w l = record {
  asked = [];
  calls = Size task.file (Err E.Missing) ∷ [];
  pairs_are = sym (append-nil pairs);
  log_is = l ∙ gained_call old (Size task.file (Err E.Missing)) refl;
  run = λ setup whole. store_run task t setup [] (Size task.file (Err E.Missing) ∷ []) (answered (refusal E.Missing)) w (λ key r. store_refused setup t key task.key task.file E.Missing (whole key r) (λ e. cc));
}

pub store_unasked_ran : (task : Task) (t : TaskTurn) (pairs : List Asking) (old new : Option Log) (n : ℕ) (e : NoMemory) → task.work ≡ W.Store
    → new ≡ logged old (Size task.file (Ok n)) → RanPlain task t [] pairs pairs old new (Err e)
store_unasked_ran task t pairs old new n e w l = record {
  asked = [];
  calls = Size task.file (Ok n) ∷ [];
  pairs_are = sym (append-nil pairs);
  log_is = l ∙ gained_call old (Size task.file (Ok n)) refl;
  run = λ setup whole. store_run task t setup [] (Size task.file (Ok n) ∷ []) Memory w (λ key r. store_unasked setup t key task.key task.file n (whole key r));
}

pub store_other_size_ran : (task : Task) (t : TaskTurn) (pairs : List Asking) (old new : Option Log) (n : ℕ) (size : Option ℕ) → task.work ≡ W.Store
    → ((key : Parts) → key_reading task.key ≡ Some key → key.size ≡ size) → is_size size n ≡ false
    → new ≡ logged old (Size task.file (Ok n)) → RanPlain task t [] pairs pairs old new (Ok (SizeAnswer n))
store_other_size_ran task t pairs old new n size w sized s l = record {
  asked = [];
  calls = Size task.file (Ok n) ∷ [];
  pairs_are = sym (append-nil pairs);
  log_is = l ∙ gained_call old (Size task.file (Ok n)) refl;
  run = λ setup whole. store_run task t setup [] (Size task.file (Ok n) ∷ []) (SizeAnswer n) w (λ key r. store_other_size setup t key task.key task.file n (whole key r) (rw (sized key r) s));
}

pub store_once_ran : (task : Task) (t : TaskTurn) (before after : List Asking) (old new : Option Log) (n : ℕ) (size : Option ℕ) (v : Verdict) → task.work ≡ W.Store
    → ((key : Parts) → key_reading task.key ≡ Some key → key.size ≡ size) → is_size size n ≡ true
    → new ≡ logged old (Size task.file (Ok n)) → AsksOne before after None (Transfer true task.key task.file) v
    → is_verdict_of (Transfer true task.key task.file) v ≡ true → RanPlain task t [] before after old new (Ok (unwrap_or (change_answer Stored v) Memory))
store_once_ran task t before after old new n size v w sized s l a k = record {
  asked = record { request = a.request; name = None; verdict = v } ∷ [];
  calls = Size task.file (Ok n) ∷ [];
  pairs_are = a.added;
  log_is = l ∙ gained_call old (Size task.file (Ok n)) refl;
  run = λ setup whole. store_run task t setup (record { request = a.request; name = None; verdict = v } ∷ []) (Size task.file (Ok n) ∷ []) (unwrap_or (change_answer Stored v) Memory) w
      (λ key r. store_once setup t key task.key task.file n a.request v (whole key r) (rw (sized key r) s) (asks_for_store task.key task.file key a.request v 1 r a.kept) k);
}

-- the file of a task is named in a line
pub named_in_line : (file : List ℕ) (is_long is_text : Bool) → (is_long && (is_text && not (list_any (λ b. b == 10) file))) ≡ true → has_newline file ≡ false
named_in_line file is_long is_text h = by_parts is_long is_text (has_newline file) h
  where
    by_parts : (a b c : Bool) → (a && (b && not c)) ≡ true → c ≡ false
    by_parts true true true h = apart h
    by_parts true true false h = refl
    by_parts true false c h = apart h
    by_parts false b c h = apart h

-- the answer that there is
pub or_memory : (task : Task) (t : TaskTurn) (before after : List Asking) (old new : Option Log) (answer : Answer) (o : Option Answer) → Some answer ≡ o
    → RanPlain task t [] before after old new (Ok (unwrap_or o Memory)) → RanPlain task t [] before after old new (Ok answer)
or_memory task t before after old new answer o e r = let P : Option Answer → Type 0 = λ o. RanPlain task t [] before after old new (Ok (unwrap_or o Memory)) in subst P (sym e) r

-- the size that a reading of the key gave is its size
pub sized_by : (text : List ℕ) (size : Option ℕ) (p : Parts) → key_reading text ≡ Some p → size ≡ p.size → (key : Parts) → key_reading text ≡ Some key → key.size ≡ size
sized_by text size p e f key h = let same : p ≡ key = cc in ap (λ (k : Parts). k.size) (sym same) ∙ sym f
