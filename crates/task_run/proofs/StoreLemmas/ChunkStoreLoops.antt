-- The loops of a store in chunks.
use Rattle.std.proofs.Common.{◌≡◌, ◌∙◌, ℕ, ◌+◌, ◌^◌, ◌<◌, ◌≤◌, List, [], ◌∷◌, ◌++◌, length, map, refl, sym, ap, subst, arith, append-nil, append_assoc, length-append}
use Rattle.std.specs.Prelude.{true, false, Option, Some, None, Result, Ok, Err}
use Rattle.std.specs.List.{list_all}
use Rattle.ann_key.specs.Keys.{Parts, with_chunk}
use Rattle.ann_key.specs.declared.bytes.NoMemory.{NoMemory}
use Rattle.annex_model.specs.Messages.{HostMessage}
use Rattle.journal_model.specs.declared.verdict.Verdict.{Verdict}
use Rattle.journal_model.specs.declared.answer.Answer.{Answer}
use Rattle.task_model.specs.Askers.{Asking, Noting}
use Rattle.task_run.specs.declared.store.chunk_store.Sought.TheVariants.{All, Missing, Over}
use Rattle.task_model.specs.Stops.{verdict_stop, is_done, is_done_at}
use Rattle.task_model.specs.Requests.{AsksFor, AskInOrder}
use Rattle.task_model.specs.Checks.{present_request}
use Rattle.task_run.specs.Store.ChunkStoring.{AsksOneFor, is_missing_at, chunk_keys, Seeks}
use Rattle.task_run.proofs.StoreLemmas.ChunkStoreRuns.{order_more, Going, going_none, with_size}
use Rattle.std.specs.Prelude.{is_some}
use Rattle.journal_model.specs.declared.verdict.Verdict.TheVariants.{Done, Failed, Absent, Unknown, Unsupported, Ended, Unsent}
use Rattle.ann_outside.specs.Calls.{Log, Gained}
use Rattle.ann_outside.specs.declared.file_desk.DeskError.TheVariants as E
use Rattle.ann_outside.specs.declared.file_desk.Call.{Call}
use Rattle.task_text.specs.Layouts.Layouts.{count_of, from_of, to_of}
use Rattle.task_model.proofs.CopyingLemmas.CopyLaws.{gained_nothing, gained_more}
use Rattle.task_model.specs.declared.setup.Setup.{Setup}
use Rattle.task_model.specs.declared.turn.TaskTurn.{TaskTurn}
use Rattle.task_model.specs.Names.{chunk_file}
use Rattle.task_model.specs.Ran.{undone_answer, behind_more, answered}
use Rattle.task_model.specs.Runs.{RunOf}
use Rattle.task_run.specs.Store.ChunkStoring.{Chunk, NotMade, NotCopied, CutShort, Unasked, Undone, Settled, chunk_calls, chunk_asked, chunk_result, ChunkIs, StoresChunk, StoresFrom, NotesChunks, IsSought, is_settled_at, so_far, removal_result}
use Rattle.task_run.proofs.StoreLemmas.ChunkStoreParts.{Chunked}
use Rattle.task_run.proofs.StoreLemmas.ChunkStoreEnds.{store_task, the_note, Missing as Missed}
use Rattle.task_run.proofs.StoreLemmas.ChunkStoreTasks.{chunk_goes, chunk_ends}
use Rattle.task_run.proofs.StoreLemmas.ChunkStoreAll.{all_stored, all_unnoted, Asked, asked_memory, asked_gone, asked_all}
use Rattle.task_run.proofs.StoreLemmas.ChunkStoreParts.{order_front}
use Rattle.task_run.specs.Store.ChunkStoring.{StoresSized}
use Rattle.std.proofs.Common.{zero, suc}
use Rattle.std.proofs.lemmas.Bool.{ne_eqb}
use Rattle.ann_key.proofs.Lists.{all_more}
use Rattle.ann_key.proofs.Booleans.{false_is_true as apart}

-- ---- questions

-- the first n chunks are there
pub record Seeking (key : Parts) (chunk count : ℕ) (before after : List Asking) (n : ℕ) : Type 0 where
  pub there : List Asking
  pub pairs_are : after ≡ before ++ there
  pub in_order : AskInOrder present_request 1 (chunk_keys key chunk 1 count) there
  pub each_there : list_all is_done there ≡ true
  pub so_many : length there ≡ n

present_any : (n m : ℕ) (key : Parts) (request : Option HostMessage) (v : Verdict) → AsksFor present_request n key (record { request = request; name = None; verdict = v })
    → AsksFor present_request m key (record { request = request; name = None; verdict = v })
present_any n m key None v h = h
present_any n m key (Some q) v h = h

one_more : (key : Parts) (chunk count n : ℕ) (before between after : List Asking) (v : Verdict) → (s : Seeking key chunk count before between n) → n < count
    → (o : AsksOneFor present_request (with_chunk chunk (n + 1) key) between after v)
    → AskInOrder present_request 1 (chunk_keys key chunk 1 count) (s.there ++ record { request = o.request; name = None; verdict = v } ∷ [])
one_more key chunk count n before between after v s low o =
    order_more present_request (λ number. with_chunk chunk number key) 1 1 count s.there (record { request = o.request; name = None; verdict = v }) s.in_order (omega (arith, s.so_many))
    (at_place (1 + length s.there) (omega (arith, s.so_many)))
  where
    at_place : (k : ℕ) → k ≡ n + 1 → AsksFor present_request k (with_chunk chunk k key) (record { request = o.request; name = None; verdict = v })
    at_place k e =
        let P : ℕ → Type 0 = λ i. AsksFor present_request k (with_chunk chunk i key) (record { request = o.request; name = None; verdict = v }) in
        subst P (sym e) (present_any 1 k (with_chunk chunk (n + 1) key) o.request v o.asks)

joined : (before between after there : List Asking) (a : Asking) → between ≡ before ++ there → after ≡ between ++ a ∷ [] → after ≡ before ++ (there ++ a ∷ [])
joined before between after there a e f = f ∙ ap (λ l. l ++ a ∷ []) e ∙ append_assoc before there (a ∷ [])

pub seeking_more : (key : Parts) (chunk count n : ℕ) (before between after : List Asking) (v : Verdict) → Seeking key chunk count before between n → n < count
    → AsksOneFor present_request (with_chunk chunk (n + 1) key) between after v → is_done_at v ≡ true → Seeking key chunk count before after (n + 1)
seeking_more key chunk count n before between after v s low o d = record {
  there = s.there ++ record { request = o.request; name = None; verdict = v } ∷ [];
  pairs_are = joined before between after s.there (record { request = o.request; name = None; verdict = v }) s.pairs_are o.added;
  in_order = one_more key chunk count n before between after v s low o;
  each_there = all_more is_done s.there (record { request = o.request; name = None; verdict = v } ∷ []) s.each_there (rw d refl);
  so_many = length-append s.there (record { request = o.request; name = None; verdict = v } ∷ []) ∙ ap (λ k. k + 1) s.so_many;
}

pub seeks_without : (key : Parts) (chunk count n : ℕ) (before between after : List Asking) (e : NoMemory) → Seeking key chunk count before between n → after ≡ between
    → Seeks key chunk count before after (Err e)
seeks_without key chunk count n before between after e s same = record {
  there = s.there;
  last = [];
  pairs_are = rw append-nil (same ∙ s.pairs_are);
  in_order = rw append-nil s.in_order;
  each_there = s.each_there;
  ends = refl;
}

pub seeks_missing : (key : Parts) (chunk count n : ℕ) (before between after : List Asking) (v : Verdict) → Seeking key chunk count before between n → n < count
    → AsksOneFor present_request (with_chunk chunk (n + 1) key) between after v → is_missing_at v ≡ true → Seeks key chunk count before after (Ok (Missing n))
seeks_missing key chunk count n before between after v s low o d = record {
  there = s.there;
  last = record { request = o.request; name = None; verdict = v } ∷ [];
  pairs_are = joined before between after s.there (record { request = o.request; name = None; verdict = v }) s.pairs_are o.added;
  in_order = one_more key chunk count n before between after v s low o;
  each_there = s.each_there;
  ends = (sym s.so_many, (record { request = o.request; name = None; verdict = v }, refl, d));
}

pub seeks_over : (key : Parts) (chunk count n : ℕ) (before between after : List Asking) (v : Verdict) (answer : Answer) → Seeking key chunk count before between n → n < count
    → AsksOneFor present_request (with_chunk chunk (n + 1) key) between after v → verdict_stop true v ≡ Some answer → Seeks key chunk count before after (Ok (Over answer))
seeks_over key chunk count n before between after v answer s low o d = record {
  there = s.there;
  last = record { request = o.request; name = None; verdict = v } ∷ [];
  pairs_are = joined before between after s.there (record { request = o.request; name = None; verdict = v }) s.pairs_are o.added;
  in_order = one_more key chunk count n before between after v s low o;
  each_there = s.each_there;
  ends = (record { request = o.request; name = None; verdict = v }, refl, d);
}

-- ---- chunks

-- the chunks up to number n are there, of which those after f were stored
pub record Storing (setup : Setup) (t : TaskTurn) (key : Parts) (file : List ℕ) (size f : ℕ) (pairs_before pairs_after : List Asking) (old new : Option Log) (n : ℕ) : Type 0 where
  pub asked : List Asking
  pub calls : List Call
  pub pairs_are : pairs_after ≡ pairs_before ++ asked
  pub log_is : Gained old new calls
  pub going : Going setup t key file size f asked calls (n + 1)

pub storing_none : (setup : Setup) (t : TaskTurn) (key : Parts) (file : List ℕ) (size f : ℕ) (pairs : List Asking) (log : Option Log) → Storing setup t key file size f pairs pairs log log f
storing_none setup t key file size f pairs log = record { asked = []; calls = []; pairs_are = sym (append-nil pairs); log_is = gained_nothing log; going = going_none setup t key file size f }

-- what is known of the store at the first chunk that isn't there
pub record Known (setup : Setup) (key : Parts) (size f : ℕ) : Type 0 where
  pub chunked : Chunked setup key size
  pub least : f < count_of size setup.chunk
  pub small : count_of size setup.chunk + 1 < 2 ^ 64

missing_of : (setup : Setup) (key : Parts) (size f : ℕ) (qs : List Asking) → Known setup key size f → IsSought key setup.chunk (count_of size setup.chunk) f qs → Missed setup key size f qs
missing_of setup key size f qs k s = record { chunked = k.chunked; sought = s; least = k.least; small = k.small }

pub storing_more : (setup : Setup) (t : TaskTurn) (key : Parts) (file : List ℕ) (size f n : ℕ) (before between after : List Asking) (a b d : Option Log) → Known setup key size f
    → Storing setup t key file size f before between a b n → n < count_of size setup.chunk
    → StoresChunk file (chunk_file setup t (n + 1 + 1)) (from_of setup.chunk (n + 1)) (to_of size setup.chunk (n + 1)) (with_chunk setup.chunk (n + 1) key) between after b d (Ok None)
    → Storing setup t key file size f before after a d (n + 1)
storing_more setup t key file size f n before between after a b d k s low h = record {
  asked = s.asked ++ chunk_asked h.how;
  calls = s.calls ++ chunk_calls file name from h.how;
  pairs_are = h.pairs_are ∙ ap (λ l. l ++ chunk_asked h.how) s.pairs_are ∙ append_assoc before s.asked (chunk_asked h.how);
  log_is = gained_more a b d s.calls (chunk_calls file name from h.how) s.log_is h.calls;
  going = by_how h.how (sym h.result_is) h.so;
}
  where
    name : List ℕ
    name = chunk_file setup t (n + 1 + 1)

    from : ℕ
    from = from_of setup.chunk (n + 1)

    stored_done : (v : Verdict) → is_settled_at v ≡ true → removal_result (undone_answer v) (Ok tt) ≡ Ok None → is_done_at v ≡ true
    stored_done (Done at) h e = refl
    stored_done (Failed at) h e = cc
    stored_done (Absent at) h e = apart h
    stored_done (Unknown at) h e = apart h
    stored_done (Unsupported at) h e = apart h
    stored_done (Ended why) h e = apart h
    stored_done Unsent h e = apart h

    undone_none : (v : Verdict) → is_some (verdict_stop false v) ≡ true → removal_result (undone_answer v) (Ok tt) ≡ Ok None → ⊥
    undone_none (Ended why) h e = cc
    undone_none Unsent h e = cc
    undone_none (Unsupported at) h e = cc
    undone_none (Done at) h e = apart h
    undone_none (Failed at) h e = apart h
    undone_none (Absent at) h e = apart h
    undone_none (Unknown at) h e = apart h

    by_how : (how : Chunk) → chunk_result how ≡ Ok None → ChunkIs file (chunk_file setup t (n + 1 + 1)) (from_of setup.chunk (n + 1)) (to_of size setup.chunk (n + 1)) (with_chunk setup.chunk (n + 1) key) how
        → Going setup t key file size f (s.asked ++ chunk_asked how) (s.calls ++ chunk_calls file (chunk_file setup t (n + 1 + 1)) (from_of setup.chunk (n + 1)) how) (n + 1 + 1)
    by_how (NotMade E.NoMemory) e so = absurd cc
    by_how (NotMade E.Failed) e so = absurd cc
    by_how (NotMade E.Missing) e so = absurd cc
    by_how (NotCopied pieces ending E.NoMemory) e so = absurd cc
    by_how (NotCopied pieces ending E.Failed) e so = absurd cc
    by_how (NotCopied pieces ending E.Missing) e so = absurd cc
    by_how (CutShort pieces ending) e so = absurd cc
    by_how (Unasked pieces ending) e so = absurd cc
    by_how (Undone pieces ending x) e so = absurd (undone_none x.verdict so.3 e)
    by_how (Settled pieces ending x (Err E.NoMemory)) e so = absurd cc
    by_how (Settled pieces ending x (Err E.Failed)) e so = absurd cc
    by_how (Settled pieces ending x (Err E.Missing)) e so = absurd cc
    by_how (Settled pieces ending x (Ok done)) e so = chunk_goes setup t key file size f s.asked s.calls (n + 1) pieces ending x k.chunked k.small s.going (omega arith) so (stored_done x.verdict so.3 e)

pub storing_ends : (setup : Setup) (t : TaskTurn) (key : Parts) (file : List ℕ) (size f n : ℕ) (before between after : List Asking) (notes notes' : List Noting) (a b d : Option Log)
    (result : Result (Option Answer) NoMemory) → Known setup key size f
    → Storing setup t key file size f before between a b n → n < count_of size setup.chunk
    → StoresChunk file (chunk_file setup t (n + 1 + 1)) (from_of setup.chunk (n + 1)) (to_of size setup.chunk (n + 1)) (with_chunk setup.chunk (n + 1) key) between after b d result
    → (result ≡ Ok None → ⊥) → notes' ≡ notes → StoresFrom setup t key file size f before after notes notes' a d (so_far result)
storing_ends setup t key file size f n before between after notes notes' a b d result k s low h ne same = record {
  asked = s.asked ++ chunk_asked h.how;
  calls = s.calls ++ chunk_calls file (chunk_file setup t (n + 1 + 1)) (from_of setup.chunk (n + 1)) h.how;
  noted = [];
  pairs_are = h.pairs_are ∙ ap (λ l. l ++ chunk_asked h.how) s.pairs_are ∙ append_assoc before s.asked (chunk_asked h.how);
  notes_are = same ∙ sym (append-nil notes);
  log_is = gained_more a b d s.calls (chunk_calls file (chunk_file setup t (n + 1 + 1)) (from_of setup.chunk (n + 1)) h.how) s.log_is h.calls;
  run = λ text layouts qs sought.
      let P : Result (Option Answer) NoMemory → Type 0 = λ r. RunOf setup t (store_task text file) key layouts (qs ++ (s.asked ++ chunk_asked h.how))
      (with_size file size (s.calls ++ chunk_calls file (chunk_file setup t (n + 1 + 1)) (from_of setup.chunk (n + 1)) h.how)) [] (answered (so_far r)) in
      subst P (sym h.result_is) (chunk_ends setup t key text file layouts size f qs s.asked s.calls (n + 1) h.how (missing_of setup key size f qs k sought) s.going (omega arith) h.so
      (λ e. ne (h.result_is ∙ e)));
}

pub storing_done : (setup : Setup) (t : TaskTurn) (key : Parts) (file : List ℕ) (size f n count : ℕ) (before after : List Asking) (notes notes' : List Noting) (a b : Option Log)
    (result : Result Answer NoMemory) → Known setup key size f → count ≡ count_of size setup.chunk
    → Storing setup t key file size f before after a b n → n ≤ count → count ≤ n → NotesChunks setup.chunk count (length after) notes notes' result
    → StoresFrom setup t key file size f before after notes notes' a b result
storing_done setup t key file size f n count before after notes notes' a b result k all s high low h = by_result result h
  where
    last : Going setup t key file size f s.asked s.calls (count_of size setup.chunk + 1)
    last = let P : ℕ → Type 0 = λ i. Going setup t key file size f s.asked s.calls (i + 1) in let e : n ≡ count_of size setup.chunk = omega (arith, all) in subst P e s.going

    long : length after ≡ length before + length s.asked
    long = ap length s.pairs_are ∙ length-append before s.asked

    by_result : (result : Result Answer NoMemory) → NotesChunks setup.chunk count (length after) notes notes' result → StoresFrom setup t key file size f before after notes notes' a b result
    by_result (Ok answer) h = record {
      asked = s.asked;
      calls = s.calls;
      noted = the_note setup (count_of size setup.chunk) (length s.asked) ∷ [];
      pairs_are = s.pairs_are;
      notes_are = h.1 ∙ ap (λ i. notes ++ i ∷ []) (at_note count (length after) all long);
      log_is = s.log_is;
      run = λ text layouts qs sought.
          let P : Answer → Type 0 = λ x. RunOf setup t (store_task text file) key layouts (qs ++ s.asked) (with_size file size s.calls)
          (map (behind_more (length qs)) (the_note setup (count_of size setup.chunk) (length s.asked) ∷ [])) x in
          subst P (sym h.0) (all_stored setup t key text file layouts size f qs s.asked s.calls (missing_of setup key size f qs k sought) last);
    }
      where
        at_note : (i j : ℕ) → i ≡ count_of size setup.chunk → j ≡ length before + length s.asked
            → the_note setup i j ≡ behind_more (length before) (the_note setup (count_of size setup.chunk) (length s.asked))
        at_note i j e f = rw (e, f) refl
    by_result (Err e) h = record {
      asked = s.asked;
      calls = s.calls;
      noted = [];
      pairs_are = s.pairs_are;
      notes_are = h ∙ sym (append-nil notes);
      log_is = s.log_is;
      run = λ text layouts qs sought. all_unnoted setup t key text file layouts size f qs s.asked s.calls (missing_of setup key size f qs k sought) last;
    }

-- ---- the whole store, after the file's length

asked_of : (setup : Setup) (key : Parts) (size : ℕ) (there last : List Asking) → Chunked setup key size → AskInOrder present_request 1 (chunk_keys key setup.chunk 1 (count_of size setup.chunk)) (there ++ last)
    → list_all is_done there ≡ true → Asked setup key size there
asked_of setup key size there last k o d = record {
  chunked = k;
  in_order = order_front 1 (chunk_keys key setup.chunk 1 (count_of size setup.chunk)) there last o;
  each_there = d;
  most = at_most 1 1 (count_of size setup.chunk) there (order_front 1 (chunk_keys key setup.chunk 1 (count_of size setup.chunk)) there last o);
}
  where
    at_most : (n m count : ℕ) (xs : List Asking) → AskInOrder present_request n (chunk_keys key setup.chunk m count) xs → length xs ≤ count
    at_most n m count [] o = omega arith
    at_most n m zero (x ∷ xs) o = absurd o
    at_most n m (suc count) (x ∷ xs) o = let r : length xs ≤ count = at_most (n + 1) (m + 1) count xs o.1 in omega arith

abbrev the_noting : ℕ → ℕ → ℕ → Noting
the_noting chunk count behind = record { chunk = chunk; count = count; behind = behind }

-- for lack of memory nothing was done
pub sized_nothing : (setup : Setup) (t : TaskTurn) (key : Parts) (file : List ℕ) (size : ℕ) (pairs : List Asking) (notes : List Noting) (log : Option Log) (e : NoMemory) → Chunked setup key size
    → StoresSized setup t key file size pairs pairs notes notes log log (Err e)
sized_nothing setup t key file size pairs notes log e k = record {
  asked = [];
  calls = [];
  noted = [];
  pairs_are = sym (append-nil pairs);
  notes_are = sym (append-nil notes);
  log_is = gained_nothing log;
  run = λ text layouts. asked_memory setup t key text file layouts size [] (record { chunked = k; in_order = tt; each_there = refl; most = omega arith });
}

pub sized_without : (setup : Setup) (t : TaskTurn) (key : Parts) (file : List ℕ) (size count : ℕ) (before after : List Asking) (notes notes' : List Noting) (log : Option Log) (e : NoMemory)
    → Chunked setup key size → count ≡ count_of size setup.chunk → Seeks key setup.chunk count before after (Err e) → notes' ≡ notes
    → StoresSized setup t key file size before after notes notes' log log (Err e)
sized_without setup t key file size count before after notes notes' log e k c s same = record {
  asked = s.there;
  calls = [];
  noted = [];
  pairs_are = s.pairs_are ∙ ap (λ l. before ++ (s.there ++ l)) s.ends ∙ ap (λ l. before ++ l) (append-nil s.there);
  notes_are = same ∙ sym (append-nil notes);
  log_is = gained_nothing log;
  run = λ text layouts. asked_memory setup t key text file layouts size s.there (asked_of setup key size s.there s.last k in_order s.each_there);
}
  where
    in_order : AskInOrder present_request 1 (chunk_keys key setup.chunk 1 (count_of size setup.chunk)) (s.there ++ s.last)
    in_order = let P : ℕ → Type 0 = λ n. AskInOrder present_request 1 (chunk_keys key setup.chunk 1 n) (s.there ++ s.last) in subst P c s.in_order

pub sized_over : (setup : Setup) (t : TaskTurn) (key : Parts) (file : List ℕ) (size count : ℕ) (before after : List Asking) (notes notes' : List Noting) (log : Option Log) (answer : Answer)
    → Chunked setup key size → count ≡ count_of size setup.chunk → Seeks key setup.chunk count before after (Ok (Over answer)) → notes' ≡ notes
    → StoresSized setup t key file size before after notes notes' log log (Ok answer)
sized_over setup t key file size count before after notes notes' log answer k c s same = record {
  asked = s.there ++ s.ends.0 ∷ [];
  calls = [];
  noted = [];
  pairs_are = s.pairs_are ∙ ap (λ l. before ++ (s.there ++ l)) s.ends.1;
  notes_are = same ∙ sym (append-nil notes);
  log_is = gained_nothing log;
  run = λ text layouts. asked_gone setup t key text file layouts size s.there s.ends.0 answer (asked_of setup key size s.there s.last k in_order s.each_there)
      (let P : List Asking → Type 0 = λ l. AskInOrder present_request 1 (chunk_keys key setup.chunk 1 (count_of size setup.chunk)) (s.there ++ l) in subst P s.ends.1 in_order) s.ends.2;
}
  where
    in_order : AskInOrder present_request 1 (chunk_keys key setup.chunk 1 (count_of size setup.chunk)) (s.there ++ s.last)
    in_order = let P : ℕ → Type 0 = λ n. AskInOrder present_request 1 (chunk_keys key setup.chunk 1 n) (s.there ++ s.last) in subst P c s.in_order

pub sized_all : (setup : Setup) (t : TaskTurn) (key : Parts) (file : List ℕ) (size count : ℕ) (before between after : List Asking) (notes notes' notes'' : List Noting) (log : Option Log) (result : Result Answer NoMemory)
    → Chunked setup key size → count ≡ count_of size setup.chunk → Seeks key setup.chunk count before between (Ok All) → notes' ≡ notes → after ≡ between
    → NotesChunks setup.chunk count (length between) notes' notes'' result
    → StoresSized setup t key file size before after notes notes'' log log result
sized_all setup t key file size count before between after notes notes' notes'' log result k c s same same' h = by_result result h
  where
    in_order : AskInOrder present_request 1 (chunk_keys key setup.chunk 1 (count_of size setup.chunk)) (s.there ++ s.last)
    in_order = let P : ℕ → Type 0 = λ n. AskInOrder present_request 1 (chunk_keys key setup.chunk 1 n) (s.there ++ s.last) in subst P c s.in_order

    pairs : between ≡ before ++ s.there
    pairs = s.pairs_are ∙ ap (λ l. before ++ (s.there ++ l)) s.ends.0 ∙ ap (λ l. before ++ l) (append-nil s.there)

    long : length between ≡ length before + length s.there
    long = ap length pairs ∙ length-append before s.there

    at_note : (i j : ℕ) → i ≡ count_of size setup.chunk → j ≡ length before + length s.there
        → the_note setup i j ≡ behind_more (length before) (the_note setup (count_of size setup.chunk) (length s.there))
    at_note i j e f = rw (e, f) refl

    by_result : (result : Result Answer NoMemory) → NotesChunks setup.chunk count (length between) notes' notes'' result → StoresSized setup t key file size before after notes notes'' log log result
    by_result (Err e) h = record {
      asked = s.there;
      calls = [];
      noted = [];
      pairs_are = same' ∙ pairs;
      notes_are = h ∙ same ∙ sym (append-nil notes);
      log_is = gained_nothing log;
      run = λ text layouts. asked_memory setup t key text file layouts size s.there (asked_of setup key size s.there s.last k in_order s.each_there);
    }
    by_result (Ok answer) h = record {
      asked = s.there;
      calls = [];
      noted = the_note setup (count_of size setup.chunk) (length s.there) ∷ [];
      pairs_are = same' ∙ pairs;
      notes_are = h.1 ∙ ap (λ l. l ++ the_note setup count (length between) ∷ []) same ∙ ap (λ i. notes ++ i ∷ []) (at_note count (length between) c long);
      log_is = gained_nothing log;
      run = λ text layouts.
          let P : Answer → Type 0 = λ x. RunOf setup t (store_task text file) key layouts s.there (with_size file size []) (the_note setup (count_of size setup.chunk) (length s.there) ∷ []) x in
          subst P (sym h.0) (asked_all setup t key text file layouts size s.there (asked_of setup key size s.there s.last k in_order s.each_there) (s.ends.1 ∙ c));
    }

pub sized_missing : (setup : Setup) (t : TaskTurn) (key : Parts) (file : List ℕ) (size count n : ℕ) (before between after : List Asking) (notes notes' notes'' : List Noting) (old new : Option Log) (result : Result Answer NoMemory)
    → Chunked setup key size → count ≡ count_of size setup.chunk → Seeks key setup.chunk count before between (Ok (Missing n)) → notes' ≡ notes
    → StoresFrom setup t key file size n between after notes' notes'' old new result → StoresSized setup t key file size before after notes notes'' old new result
sized_missing setup t key file size count n before between after notes notes' notes'' old new result k c s same h = record {
  asked = questions ++ h.asked;
  calls = h.calls;
  noted = map (behind_more (length questions)) h.noted;
  pairs_are = h.pairs_are ∙ ap (λ l. l ++ h.asked) pairs ∙ append_assoc before questions h.asked;
  notes_are = h.notes_are ∙ ap (λ l. l ++ map (behind_more (length between)) h.noted) same ∙ ap (λ l. notes ++ l) (noted_all h.noted);
  log_is = h.log_is;
  run = λ text layouts. h.run text layouts questions sought;
}
  where
    questions : List Asking
    questions = s.there ++ s.ends.1.0 ∷ []

    pairs : between ≡ before ++ (s.there ++ s.ends.1.0 ∷ [])
    pairs = s.pairs_are ∙ ap (λ l. before ++ (s.there ++ l)) s.ends.1.1

    long : length between ≡ length before + length (s.there ++ s.ends.1.0 ∷ [])
    long = ap length pairs ∙ length-append before (s.there ++ s.ends.1.0 ∷ [])

    noted_all : (xs : List Noting) → map (behind_more (length between)) xs ≡ map (behind_more (length before)) (map (behind_more (length (s.there ++ s.ends.1.0 ∷ []))) xs)
    noted_all [] = refl
    noted_all (x ∷ xs) = step (at_one (length between + x.behind) (omega (arith, long))) (noted_all xs)
      where
        at_one : (i : ℕ) → i ≡ length before + (length (s.there ++ s.ends.1.0 ∷ []) + x.behind)
            → the_noting x.chunk x.count i ≡ behind_more (length before) (behind_more (length (s.there ++ s.ends.1.0 ∷ [])) x)
        at_one i e = rw e refl

        step : {y z : Noting} {ys zs : List Noting} → y ≡ z → ys ≡ zs → y ∷ ys ≡ z ∷ zs
        step e f = cc

    in_order : AskInOrder present_request 1 (chunk_keys key setup.chunk 1 (count_of size setup.chunk)) (s.there ++ s.ends.1.0 ∷ [])
    in_order =
        let P : ℕ → Type 0 = λ i. AskInOrder present_request 1 (chunk_keys key setup.chunk 1 i) (s.there ++ s.last) in
        let Q : List Asking → Type 0 = λ l. AskInOrder present_request 1 (chunk_keys key setup.chunk 1 (count_of size setup.chunk)) (s.there ++ l) in
        subst Q s.ends.1.1 (subst P c s.in_order)

    sought : IsSought key setup.chunk (count_of size setup.chunk) n (s.there ++ s.ends.1.0 ∷ [])
    sought = record { there = s.there; one = s.ends.1.0; asked_is = refl; in_order = in_order; each_there = s.each_there; so_many = sym s.ends.0; missing = s.ends.1.2 }

pub chunked_by : (setup : Setup) (key : Parts) (size : ℕ) → 0 < setup.chunk → key.size ≡ Some size → Chunked setup key size
chunked_by setup key size some sized = record { some = ne_eqb setup.chunk 0 (λ e. omega arith); sized = sized }

pub known_of : (setup : Setup) (key : Parts) (size f : ℕ) → 0 < setup.chunk → key.size ≡ Some size → f < count_of size setup.chunk → count_of size setup.chunk + 1 < 2 ^ 64 → Known setup key size f
known_of setup key size f some sized least small = record { chunked = chunked_by setup key size some sized; least = least; small = small }

order_length : (key : Parts) (chunk n m count : ℕ) (xs : List Asking) → AskInOrder present_request n (chunk_keys key chunk m count) xs → length xs ≤ count
order_length key chunk n m count [] o = omega arith
order_length key chunk n m zero (x ∷ xs) o = absurd o
order_length key chunk n m (suc count) (x ∷ xs) o = let r : length xs ≤ count = order_length key chunk (n + 1) (m + 1) count xs o.1 in omega arith

pub missing_least : (key : Parts) (chunk count n : ℕ) (before after : List Asking) → Seeks key chunk count before after (Ok (Missing n)) → n < count
missing_least key chunk count n before after s =
    let all : length (s.there ++ s.last) ≤ count = order_length key chunk 1 1 count (s.there ++ s.last) s.in_order in
    let many : length (s.there ++ s.last) ≡ length s.there + length s.last = length-append s.there s.last in
    let last : length s.last ≡ 1 = ap length s.ends.1.1 in
    omega (arith, s.ends.0)
