-- What a whole store in chunks did.
use Rattle.std.proofs.Common.{◌≡◌, ◌∙◌, ℕ, ◌<◌, zero, suc, List, [], ◌∷◌, refl, sym, ap, subst, arith, append-nil}
use Rattle.std.specs.Prelude.{true, false, ◌&&◌, not, ◌==◌, Option, Some, None, is_some, Result, Ok, Err, IsTrue}
use Rattle.std.proofs.lemmas.Bool.{and_parts, ne_eqb}
use Rattle.ann_key.specs.Keys.{Parts, key_reading, is_key, is_sendable}
use Rattle.ann_key.specs.declared.bytes.NoMemory.{NoMemory}
use Rattle.task_text.specs.Layouts.Layouts.{Part}
use Rattle.journal_model.specs.declared.answer.Answer.{Answer}
use Rattle.journal_model.specs.declared.answer.Answer.TheVariants as A
use Rattle.task_text.specs.declared.task.Task.{Task}
use Rattle.task_text.specs.declared.task.Work.TheVariants as W
use Rattle.task_text.specs.TaskLines.{is_task_key, has_chunk}
use Rattle.ann_outside.specs.Calls.{Log, logged}
use Rattle.ann_outside.specs.declared.file_desk.DeskError.{DeskError}
use Rattle.ann_outside.specs.declared.file_desk.DeskError.TheVariants as E
use Rattle.ann_outside.specs.declared.file_desk.Call.{Call}
use Rattle.ann_outside.specs.declared.file_desk.Call.TheVariants.{Size}
use Rattle.task_model.proofs.CopyingLemmas.CopyLaws.{gained_call, gained_without, gained_more}
use Rattle.task_model.specs.Askers.{Asking, Noting}
use Rattle.task_model.specs.declared.setup.Setup.{Setup}
use Rattle.task_model.specs.declared.turn.TaskTurn.{TaskTurn}
use Rattle.task_model.specs.Names.{part_of}
use Rattle.task_model.specs.Layouts.{parts_of_layout}
use Rattle.task_model.specs.Stores.{is_size, is_copied, is_next_copied, begins_with_size, ChunkStoreAsks}
use Rattle.task_model.specs.Runs.{RunOf, TaskRun, is_chunked}
use Rattle.task_model.specs.TaskCalls.{StoreCalls}
use Rattle.task_model.specs.Ran.{RanStore, IsInChunks, answered, refusal}
use Rattle.task_run.specs.Store.ChunkStoring.{StoresSized}
use Rattle.task_model.proofs.Texts.{longer_differs}
use Rattle.task_model.proofs.PlainRuns.{of_reading}
use Rattle.task_run.proofs.StoreLemmas.ChunkStoreEnds.{store_task, as_store}
use Rattle.task_model.proofs.NamedRuns.{with_names}
use Rattle.task_text.specs.Works.{has_name}
use Rattle.ann_key.proofs.Lists.{same_name, other_name}
use Rattle.ann_key.proofs.Booleans.{false_is_true as apart}

-- a run by the key that the task's text spells is one of the task
store_run : (task : Task) (t : TaskTurn) (setup : Setup) (key : Parts) (layouts : List (ℕ × ℕ)) (asked : List Asking) (calls : List Call) (noted : List Noting) (answer : Answer) → task.work ≡ W.Store
    → key_reading task.key ≡ Some key → RunOf setup t (store_task task.key task.file) key layouts asked calls noted answer → TaskRun task t setup layouts asked calls noted answer
store_run task t setup key layouts asked calls noted answer w r h =
    let P : Task → Type 0 = λ j. TaskRun j t setup layouts asked calls noted answer in
    let Q : Parts → Type 0 = λ k. RunOf setup t (store_task task.key task.file) k layouts asked calls noted answer in
    with_names task t setup layouts asked calls noted answer (ap has_name w)
    (subst P (sym (as_store task w)) (of_reading task.key (λ k. RunOf setup t (store_task task.key task.file) k layouts asked calls noted answer)
    (λ k e. let same : key ≡ k = one key k (sym r ∙ e) in subst Q same h)))
  where
    one : (p q : Parts) → Some p ≡ Some q → p ≡ q
    one p q e = cc

-- ---- nothing asked

next_any : (setup : Setup) (t : TaskTurn) (file : List ℕ) (calls : List Call) (n : ℕ) (ps : List Part) → ((p : Part) → is_copied setup t file calls n p ≡ true) → is_next_copied setup t file calls n ps ≡ true
next_any setup t file calls n [] h = refl
next_any setup t file calls n (p ∷ ps) h = h p

asks_nothing : (setup : Setup) (t : TaskTurn) (key : Parts) (file : List ℕ) (calls : List Call) → begins_with_size calls ≡ true → ((p : Part) → is_copied setup t file calls 1 p ≡ true)
    → ChunkStoreAsks setup t key file [] calls []
asks_nothing setup t key file calls b h = record {
  size_first = b;
  fits = λ some. absurd (some refl);
  questions_in_order = tt;
  each_found = refl;
  only_missing = refl;
  transfers_in_order = tt;
  each_stored = refl;
  each_whole = refl;
  next_copied = next_any setup t file calls 1 (parts_of_layout key setup.chunk) h;
  each_removed = refl;
  noted_once = refl;
  noted_last = λ some. absurd (some refl);
}

size_calls : (setup : Setup) (t : TaskTurn) (file : List ℕ) (r : Result ℕ DeskError) → StoreCalls setup t file [] (Size file r ∷ [])
size_calls setup t file r = record { names = rw (same_name file) refl; changes = refl; lengths = rw (same_name file) refl }

nothing_run : (setup : Setup) (t : TaskTurn) (key : Parts) (text file : List ℕ) (layouts : List (ℕ × ℕ)) → is_chunked setup key ≡ true → RunOf setup t (store_task text file) key layouts [] [] [] A.Memory
nothing_run setup t key text file layouts k = record {
  asked_till_stop = refl;
  calls_till_stop = refl;
  found = refl;
  work = (record { names = refl; changes = refl; lengths = refl }, rw k (asks_nothing setup t key file [] refl (λ p. refl)));
  answered = tt;
}

failed_run : (setup : Setup) (t : TaskTurn) (key : Parts) (text file : List ℕ) (layouts : List (ℕ × ℕ)) → is_chunked setup key ≡ true
    → RunOf setup t (store_task text file) key layouts [] (Size file (Err E.Failed) ∷ []) [] A.FileFault
failed_run setup t key text file layouts k = record {
  asked_till_stop = refl;
  calls_till_stop = refl;
  found = refl;
  work = (size_calls setup t file (Err E.Failed), rw k (asks_nothing setup t key file (Size file (Err E.Failed) ∷ []) refl (λ p. refl)));
  answered = refl;
}

missing_run : (setup : Setup) (t : TaskTurn) (key : Parts) (text file : List ℕ) (layouts : List (ℕ × ℕ)) → is_chunked setup key ≡ true
    → RunOf setup t (store_task text file) key layouts [] (Size file (Err E.Missing) ∷ []) [] A.NoFile
missing_run setup t key text file layouts k = record {
  asked_till_stop = refl;
  calls_till_stop = refl;
  found = refl;
  work = (size_calls setup t file (Err E.Missing), rw k (asks_nothing setup t key file (Size file (Err E.Missing) ∷ []) refl (λ p. refl)));
  answered = rw (other_name file (part_of file) (longer_differs file _ _)) refl;
}

other_run : (setup : Setup) (t : TaskTurn) (key : Parts) (text file : List ℕ) (layouts : List (ℕ × ℕ)) (n : ℕ) → is_chunked setup key ≡ true → is_size key.size n ≡ false
    → RunOf setup t (store_task text file) key layouts [] (Size file (Ok n) ∷ []) [] (A.Size n)
other_run setup t key text file layouts n k s = record {
  asked_till_stop = refl;
  calls_till_stop = refl;
  found = refl;
  work = (size_calls setup t file (Ok n), rw k (asks_nothing setup t key file (Size file (Ok n) ∷ []) refl (λ p. refl)));
  answered = rw k (record { last_removed = refl; answered = rw (same_name file) (rw s refl) });
}

-- ---- what was done

pub refused_ran : (task : Task) (t : TaskTurn) (setup : Setup) (key : Parts) (pairs : List Asking) (notes : List Noting) (old new : Option Log) (e : DeskError) → task.work ≡ W.Store
    → key_reading task.key ≡ Some key → IsInChunks setup task → new ≡ logged old (Size task.file (Err e)) → RanStore task t setup pairs pairs notes notes old new (refusal e)
refused_ran task t setup key pairs notes old new E.NoMemory w r k l = record {
  asked = [];
  calls = [];
  noted = [];
  pairs_are = sym (append-nil pairs);
  notes_are = sym (append-nil notes);
  log_is = l ∙ gained_without old (Size task.file (Err E.NoMemory)) refl;
  run = λ layouts. store_run task t setup key layouts [] [] [] A.Memory w r (nothing_run setup t key task.key task.file layouts (k key r));
}
refused_ran task t setup key pairs notes old new E.Failed w r k l = record {
  asked = [];
  calls = Size task.file (Err E.Failed) ∷ [];
  noted = [];
  pairs_are = sym (append-nil pairs);
  notes_are = sym (append-nil notes);
  log_is = l ∙ gained_call old (Size task.file (Err E.Failed)) refl;
  run = λ layouts. store_run task t setup key layouts [] (Size task.file (Err E.Failed) ∷ []) [] A.FileFault w r (failed_run setup t key task.key task.file layouts (k key r));
}
refused_ran task t setup key pairs notes old new E.Missing w r k l = record {
  asked = [];
  calls = Size task.file (Err E.Missing) ∷ [];
  noted = [];
  pairs_are = sym (append-nil pairs);
  notes_are = sym (append-nil notes);
  log_is = l ∙ gained_call old (Size task.file (Err E.Missing)) refl;
  run = λ layouts. store_run task t setup key layouts [] (Size task.file (Err E.Missing) ∷ []) [] A.NoFile w r (missing_run setup t key task.key task.file layouts (k key r));
}

pub other_size_ran : (task : Task) (t : TaskTurn) (setup : Setup) (key : Parts) (pairs : List Asking) (notes : List Noting) (old new : Option Log) (size n : ℕ) → task.work ≡ W.Store
    → key_reading task.key ≡ Some key → IsInChunks setup task → key.size ≡ Some size → (n ≡ size → ⊥) → new ≡ logged old (Size task.file (Ok n))
    → RanStore task t setup pairs pairs notes notes old new (Ok (A.Size n))
other_size_ran task t setup key pairs notes old new size n w r k s d l = record {
  asked = [];
  calls = Size task.file (Ok n) ∷ [];
  noted = [];
  pairs_are = sym (append-nil pairs);
  notes_are = sym (append-nil notes);
  log_is = l ∙ gained_call old (Size task.file (Ok n)) refl;
  run = λ layouts. store_run task t setup key layouts [] (Size task.file (Ok n) ∷ []) [] (A.Size n) w r (other_run setup t key task.key task.file layouts n (k key r) (rw s (ne_eqb n size d)));
}

pub sized_ran : (task : Task) (t : TaskTurn) (setup : Setup) (key : Parts) (size : ℕ) (before after : List Asking) (notes notes' : List Noting) (a b d : Option Log) (result : Result Answer NoMemory)
    → task.work ≡ W.Store → key_reading task.key ≡ Some key → b ≡ logged a (Size task.file (Ok size)) → StoresSized setup t key task.file size before after notes notes' b d result
    → RanStore task t setup before after notes notes' a d result
sized_ran task t setup key size before after notes notes' a b d result w r l h = record {
  asked = h.asked;
  calls = Size task.file (Ok size) ∷ h.calls;
  noted = h.noted;
  pairs_are = h.pairs_are;
  notes_are = h.notes_are;
  log_is = gained_more a b d (Size task.file (Ok size) ∷ []) h.calls (l ∙ gained_call a (Size task.file (Ok size)) refl) h.log_is;
  run = λ layouts. store_run task t setup key layouts h.asked (Size task.file (Ok size) ∷ h.calls) h.noted (answered result) w r (h.run task.key layouts);
}

-- ---- what is asked for on the way

pub some_chunk : (setup : Setup) (task : Task) (key : Parts) → key_reading task.key ≡ Some key → IsInChunks setup task → 0 < setup.chunk
some_chunk setup task key r k = by_number setup.chunk (and_parts (not (setup.chunk == 0)) (is_some key.size) (k key r)).0
  where
    by_number : (n : ℕ) → not (n == 0) ≡ true → 0 < n
    by_number zero h = apart h
    by_number (suc n) h = omega arith

pub some_size : (setup : Setup) (task : Task) (key : Parts) → key_reading task.key ≡ Some key → IsInChunks setup task → key.size ≡ None → ⊥
some_size setup task key r k none = by_size key.size none (and_parts (not (setup.chunk == 0)) (is_some key.size) (k key r)).1
  where
    by_size : (o : Option ℕ) → o ≡ None → is_some o ≡ true → ⊥
    by_size None e h = apart h
    by_size (Some n) e h = cc

pub no_chunk : (text : List ℕ) (key : Parts) → key_reading text ≡ Some key → IsTrue (is_task_key text) → key.chunk ≡ None
no_chunk text key r h =
    let a = and_parts (is_key text) (is_sendable text && not (has_chunk text)) h in
    let b = and_parts (is_sendable text) (not (has_chunk text)) a.1 in
    let e : has_chunk text ≡ is_some key.chunk = rw r refl in
    by_chunk key.chunk (sym (ap not e) ∙ b.1)
  where
    by_chunk : (o : Option (ℕ × ℕ)) → not (is_some o) ≡ true → o ≡ None
    by_chunk None h = refl
    by_chunk (Some x) h = apart h
