-- How a store in chunks ends at its questions, and after its last chunk.
use Rattle.std.proofs.Common.{◌≡◌, ◌∙◌, ℕ, zero, suc, ◌+◌, ◌-◌, ◌<◌, ◌≤◌, List, [], ◌∷◌, ◌++◌, length, map, refl, sym, ap, subst, arith, append-nil, drop, length-append, add-zero, eq-eqb}
use Rattle.std.specs.Prelude.{Bool, true, false, ◌&&◌, not, nat_lt, ◌==◌, count_by, Option, Some, None, is_none}
use Rattle.std.specs.List.{list_all}
use Rattle.ann_key.specs.Keys.{Parts, with_chunk}
use Rattle.annex_model.specs.Messages.{HostMessage}
use Rattle.task_text.specs.Layouts.Layouts.{Part, count_of}
use Rattle.journal_model.specs.declared.verdict.Verdict.{Verdict}
use Rattle.journal_model.specs.declared.verdict.Verdict.TheVariants.{Done, Failed, Absent, Unknown, Unsupported, Ended, Unsent}
use Rattle.journal_model.specs.declared.answer.Answer.{Answer}
use Rattle.journal_model.specs.declared.answer.Answer.TheVariants as A
use Rattle.task_text.specs.declared.task.Work.TheVariants as W
use Rattle.ann_outside.specs.declared.file_desk.Call.{Call}
use Rattle.task_model.specs.Askers.{Asking, Noting, is_gone}
use Rattle.task_model.specs.declared.setup.Setup.{Setup}
use Rattle.task_model.specs.declared.turn.TaskTurn.{TaskTurn}
use Rattle.task_model.specs.Stops.{asking_stop, verdict_stop, all_but_last, is_done, is_done_at, is_question}
use Rattle.task_model.specs.Requests.{AsksFor, AskInOrder}
use Rattle.task_model.specs.Layouts.{parts_of_layout}
use Rattle.task_model.specs.Checks.{present_request}
use Rattle.task_model.specs.Stores.{is_next_copied, chunk_request, found, transfers, ChunkStoreAsks}
use Rattle.task_model.specs.Runs.{RunOf}
use Rattle.task_model.specs.TaskCalls.{StoreCalls}
use Rattle.task_run.specs.Store.ChunkStoring.{chunk_keys}
use Rattle.task_model.proofs.Lists.{but_last, all_taken}
use Rattle.task_run.proofs.StoreLemmas.ChunkStoreRuns.{Going, with_size}
use Rattle.task_run.proofs.StoreLemmas.ChunkStoreParts.{Chunked, chunk_parts, parts_many, Split, split_of, there_questions, found_there, no_more_found, next_of, drop_range}
use Rattle.task_run.proofs.StoreLemmas.ChunkStoreEnds.{Missing, store_task, all_done_free, end_memory, calls_of, chunked_is, sought_free, sought_length, sought_split, pieces_of, asks_of, the_note, run_finished}
use Rattle.task_model.specs.Stores.{stored}
use Rattle.task_model.specs.Ran.{behind_more}
use Rattle.task_run.proofs.StoreLemmas.ChunkStoreTasks.{answers_stored, fits_is, stored_is, all_counted}
use Rattle.task_run.proofs.StoreLemmas.ChunkStoreEnds.{Pieces, run_memory, run_asking_stop}
use Rattle.ann_key.proofs.Lists.{same_name, all_more}
use Rattle.std.proofs.lemmas.Bool.{lt-ltb as lt_true, le-ltb as lt_false}

-- ---- after the last chunk

note_is : (setup : Setup) (count : ℕ) (qs ts : List Asking) → map (behind_more (length qs)) (the_note setup count (length ts) ∷ []) ≡ the_note setup count (length (qs ++ ts)) ∷ []
note_is setup count qs ts = ap (λ n. the_note setup count n ∷ []) (sym (length-append qs ts))

-- all chunks are there, and noted
pub all_stored : (setup : Setup) (t : TaskTurn) (key : Parts) (text file : List ℕ) (layouts : List (ℕ × ℕ)) (size f : ℕ) (qs ts : List Asking) (calls : List Call) → Missing setup key size f qs
    → Going setup t key file size f ts calls (count_of size setup.chunk + 1)
    → RunOf setup t (store_task text file) key layouts (qs ++ ts) (with_size file size calls) (map (behind_more (length qs)) (the_note setup (count_of size setup.chunk) (length ts) ∷ [])) A.Stored
all_stored setup t key text file layouts size f qs ts calls m g =
    let P : List Noting → Type 0 = λ l. RunOf setup t (store_task text file) key layouts (qs ++ ts) (with_size file size calls) l A.Stored in
    subst P (sym (note_is setup (count_of size setup.chunk) qs ts))
    (run_finished setup t key text file layouts (qs ++ ts) (with_size file size calls) (note ∷ []) A.Stored (chunked_is setup key size m.chunked)
    (calls_of setup t key file size f qs ts calls m g.front)
    (asks_of setup t key file size f qs ts calls (note ∷ []) m.chunked (pieces_of setup t key file size f qs ts calls m.least (omega (arith, g.so_many)) m.sought g.front) refl (λ some. all))
    g.front.found (all_more (λ a. is_none (asking_stop W.Store a)) qs ts (sought_free key setup.chunk (count_of size setup.chunk) f qs m.sought) (all_done_free ts g.all_stored)) g.free
    (rw (chunked_is setup key size m.chunked) (answers_stored setup t key file size f (qs ++ ts) qs ts calls note m.chunked
    (sought_split key setup.chunk (count_of size setup.chunk) f qs ts m.sought g.front.no_questions) (sought_length key setup.chunk (count_of size setup.chunk) f qs m.sought)
    (λ j low high. g.removed j low (omega (arith, g.so_many, high))) all)))
  where
    note : Noting
    note = the_note setup (count_of size setup.chunk) (length (qs ++ ts))

    all : f + count_by is_done ts ≡ count_of size setup.chunk
    all = omega (arith, all_counted ts g.all_stored, g.so_many)

-- they aren't noted for lack of memory
pub all_unnoted : (setup : Setup) (t : TaskTurn) (key : Parts) (text file : List ℕ) (layouts : List (ℕ × ℕ)) (size f : ℕ) (qs ts : List Asking) (calls : List Call) → Missing setup key size f qs
    → Going setup t key file size f ts calls (count_of size setup.chunk + 1)
    → RunOf setup t (store_task text file) key layouts (qs ++ ts) (with_size file size calls) [] A.Memory
all_unnoted setup t key text file layouts size f qs ts calls m g =
    end_memory setup t key text file layouts size f qs ts calls m (omega (arith, g.so_many)) g.front (all_done_free ts g.all_stored) g.free

-- ---- at the questions: those that are there, and perhaps one that found its child gone

-- a question whose child is gone is kept or not
pub record Asked (setup : Setup) (key : Parts) (size : ℕ) (there : List Asking) : Type 0 where
  pub chunked : Chunked setup key size
  pub in_order : AskInOrder present_request 1 (chunk_keys key setup.chunk 1 (count_of size setup.chunk)) there
  pub each_there : list_all is_done there ≡ true
  pub most : length there ≤ count_of size setup.chunk

same_self : (n : ℕ) → nat_lt n n ≡ false
same_self n = lt_false n n (omega arith)

there_split : (setup : Setup) (key : Parts) (size : ℕ) (there ts : List Asking) → Asked setup key size there → list_all (λ a. not (is_question a)) ts ≡ true
    → Split (there ++ ts) there ts (length there)
there_split setup key size there ts a h =
    split_of there ts (length there) questions_are h (found_there there ts questions_are a.each_there (no_more_found ts h))
  where
    questions_are : list_all is_question there ≡ true
    questions_are = there_questions 1 (chunk_keys key setup.chunk 1 (count_of size setup.chunk)) there a.in_order a.each_there

all_but_done : (xs : List Asking) → list_all is_done xs ≡ true → list_all is_done (all_but_last xs) ≡ true
all_but_done xs h = all_taken is_done _ xs h

-- after the chunks that are there, and nothing else
there_pieces : (setup : Setup) (t : TaskTurn) (key : Parts) (file : List ℕ) (size : ℕ) (there : List Asking) → Asked setup key size there → Pieces setup t key file size (length there) there [] []
there_pieces setup t key file size there a = record {
  split = there_split setup key size there [] a refl;
  no_size = refl;
  in_order = a.in_order;
  each_found = all_but_done there a.each_there;
  only_missing = rw (same_self (length there)) refl;
  then_in_order = tt;
  each_stored = refl;
  each_whole = rw (same_self (length there)) refl;
  next = next_of setup t key file size (length (there ++ []) + 1) (length there + 1) (count_of size setup.chunk - length there) (with_size file size []) (λ some. refl);
  each_removed = refl;
}

sized_calls : (setup : Setup) (t : TaskTurn) (file : List ℕ) (size : ℕ) (asked : List Asking) → StoreCalls setup t file asked (with_size file size [])
sized_calls setup t file size asked = record { names = rw (same_name file) refl; changes = refl; lengths = rw (same_name file) refl }

no_more : (setup : Setup) (t : TaskTurn) (key : Parts) (text file : List ℕ) (layouts : List (ℕ × ℕ)) (size : ℕ) (there : List Asking) (noted : List Noting) (answer : Answer)
    → RunOf setup t (store_task text file) key layouts (there ++ []) (with_size file size []) noted answer → RunOf setup t (store_task text file) key layouts there (with_size file size []) noted answer
no_more setup t key text file layouts size there noted answer h =
    let P : List Asking → Type 0 = λ l. RunOf setup t (store_task text file) key layouts l (with_size file size []) noted answer in subst P (append-nil there) h

-- running out of memory at a question
pub asked_memory : (setup : Setup) (t : TaskTurn) (key : Parts) (text file : List ℕ) (layouts : List (ℕ × ℕ)) (size : ℕ) (there : List Asking) → Asked setup key size there
    → RunOf setup t (store_task text file) key layouts there (with_size file size []) [] A.Memory
asked_memory setup t key text file layouts size there a =
    no_more setup t key text file layouts size there [] A.Memory (run_memory setup t key text file layouts (there ++ []) (with_size file size []) [] (chunked_is setup key size a.chunked) (sized_calls setup t file size (there ++ []))
    (asks_of setup t key file size (length there) there [] [] [] a.chunked (there_pieces setup t key file size there a) refl (λ some. absurd (some refl))) refl
    (all_more (λ q. is_none (asking_stop W.Store q)) there [] (all_done_free there a.each_there) refl) refl)

-- all are there
pub asked_all : (setup : Setup) (t : TaskTurn) (key : Parts) (text file : List ℕ) (layouts : List (ℕ × ℕ)) (size : ℕ) (there : List Asking) → Asked setup key size there → length there ≡ count_of size setup.chunk
    → RunOf setup t (store_task text file) key layouts there (with_size file size []) (the_note setup (count_of size setup.chunk) (length there) ∷ []) A.Stored
asked_all setup t key text file layouts size there a n =
    let Q : List Asking → Type 0 = λ l. RunOf setup t (store_task text file) key layouts l (with_size file size []) (the_note setup (count_of size setup.chunk) (length l) ∷ []) A.Stored in
    subst Q (append-nil there)
    (run_finished setup t key text file layouts (there ++ []) (with_size file size []) (note ∷ []) A.Stored (chunked_is setup key size a.chunked) (sized_calls setup t file size (there ++ []))
    (asks_of setup t key file size (length there) there [] [] (note ∷ []) a.chunked (there_pieces setup t key file size there a) refl (λ some. all)) refl
    (all_more (λ q. is_none (asking_stop W.Store q)) there [] (all_done_free there a.each_there) refl) refl
    (rw (chunked_is setup key size a.chunked) (record {
      last_removed = let s : transfers (there ++ []) ≡ [] = (there_split setup key size there [] a refl).behind in rw s refl;
      answered = rw (fits_is key file size [] a.chunked.sized) (rw stored_all (refl, refl));
    })))
  where
    note : Noting
    note = the_note setup (count_of size setup.chunk) (length (there ++ []))

    all : length there + count_by is_done [] ≡ count_of size setup.chunk
    all = omega (arith, n)

    stored_all : (stored (there ++ []) == length (parts_of_layout key setup.chunk)) ≡ true
    stored_all =
        let s : stored (there ++ []) ≡ length there + count_by is_done [] = stored_is (there ++ []) there [] (length there) (there_split setup key size there [] a refl) in
        let m : length (parts_of_layout key setup.chunk) ≡ count_of size setup.chunk = parts_many setup key size a.chunked in
        eq-eqb (stored (there ++ [])) (length (parts_of_layout key setup.chunk)) (s ∙ all ∙ sym m)

-- ---- a question that found its child gone

stops_anyhow : (v : Verdict) (b : Bool) (answer : Answer) → verdict_stop true v ≡ Some answer → verdict_stop b v ≡ Some answer
stops_anyhow (Ended why) b answer h = h
stops_anyhow Unsent b answer h = h
stops_anyhow (Done at) b answer h = cc
stops_anyhow (Failed at) b answer h = cc
stops_anyhow (Absent at) b answer h = cc
stops_anyhow (Unknown at) b answer h = cc
stops_anyhow (Unsupported at) b answer h = cc

stops_undone : (v : Verdict) (answer : Answer) → verdict_stop true v ≡ Some answer → is_done_at v ≡ false
stops_undone (Ended why) answer h = refl
stops_undone Unsent answer h = refl
stops_undone (Done at) answer h = absurd cc
stops_undone (Failed at) answer h = refl
stops_undone (Absent at) answer h = refl
stops_undone (Unknown at) answer h = refl
stops_undone (Unsupported at) answer h = refl

-- the keys that are left for the last of the askings
last_asks : (ask : ℕ → List ℕ → HostMessage) (key : Parts) (chunk n m count : ℕ) (xs : List Asking) (a : Asking) → AskInOrder ask n (chunk_keys key chunk m count) (xs ++ a ∷ [])
    → AsksFor ask (n + length xs) (with_chunk chunk (m + length xs) key) a × (length xs < count)
last_asks ask key chunk n m zero [] a o = absurd o
last_asks ask key chunk n m zero (x ∷ xs) a o = absurd o
last_asks ask key chunk n m (suc count) [] a o =
    let P : ℕ → Type 0 = λ k. AsksFor ask k (with_chunk chunk (m + 0) key) a in
    let Q : ℕ → Type 0 = λ k. AsksFor ask n (with_chunk chunk k key) a in
    (subst P (sym (add-zero n)) (subst Q (sym (add-zero m)) o.0), omega arith)
last_asks ask key chunk n m (suc count) (x ∷ xs) a o =
    let r = last_asks ask key chunk (n + 1) (m + 1) count xs a o.1 in
    let d : n + 1 + length xs ≡ n + length (x ∷ xs) = omega arith in
    let e : m + 1 + length xs ≡ m + length (x ∷ xs) = omega arith in
    let P : ℕ → Type 0 = λ k. AsksFor ask k (with_chunk chunk (m + length (x ∷ xs)) key) a in
    let Q : ℕ → Type 0 = λ k. AsksFor ask (n + 1 + length xs) (with_chunk chunk k key) a in
    (subst P d (subst Q e r.0), omega (arith, r.1))

gone_kept : (setup : Setup) (t : TaskTurn) (key : Parts) (text file : List ℕ) (layouts : List (ℕ × ℕ)) (size : ℕ) (there : List Asking) (a : Asking) (answer : Answer) → Asked setup key size there
    → AskInOrder present_request 1 (chunk_keys key setup.chunk 1 (count_of size setup.chunk)) (there ++ a ∷ []) → verdict_stop true a.verdict ≡ Some answer → is_question a ≡ true
    → RunOf setup t (store_task text file) key layouts (there ++ a ∷ []) (with_size file size []) [] answer
gone_kept setup t key text file layouts size there a answer k o s q =
    run_asking_stop setup t key text file layouts there a (with_size file size []) answer (chunked_is setup key size k.chunked) (sized_calls setup t file size (there ++ a ∷ []))
    (subst (λ (l : List Asking). ChunkStoreAsks setup t key file l (with_size file size []) []) (append-nil (there ++ a ∷ []))
    (asks_of setup t key file size (length there) (there ++ a ∷ []) [] [] [] k.chunked pieces refl (λ some. absurd (some refl)))) refl (all_done_free there k.each_there) (rw q s) refl
  where
    there_are : list_all is_question there ≡ true
    there_are = there_questions 1 (chunk_keys key setup.chunk 1 (count_of size setup.chunk)) there k.in_order k.each_there

    not_done : list_all (λ x. not (is_question x && is_done x)) (a ∷ []) ≡ true
    not_done =
        let u : is_done a ≡ false = stops_undone a.verdict answer s in
        let n : (is_question a && is_done a) ≡ false = rw (q, u) refl in
        rw n refl

    more : length (there ++ a ∷ []) ≡ length there + 1
    more = length-append there (a ∷ [])

    low : nat_lt (length there) (length (there ++ a ∷ [])) ≡ true
    low = lt_true (length there) (length (there ++ a ∷ [])) (omega (arith, more))

    found_is : found ((there ++ a ∷ []) ++ []) ≡ length there
    found_is = ap found (append-nil (there ++ a ∷ [])) ∙ found_there there (a ∷ []) there_are k.each_there not_done

    pieces : Pieces setup t key file size (length there) (there ++ a ∷ []) [] []
    pieces = record {
      split = split_of (there ++ a ∷ []) [] (length there) (all_more is_question there (a ∷ []) there_are (rw q refl)) refl found_is;
      no_size = refl;
      in_order = o;
      each_found = rw (but_last there a) k.each_there;
      only_missing = rw low refl;
      then_in_order = tt;
      each_stored = refl;
      each_whole = rw low refl;
      next = next_of setup t key file size (length ((there ++ a ∷ []) ++ []) + 1) (length there + 1) (count_of size setup.chunk - length there) (with_size file size []) (λ some. refl);
      each_removed = refl;
    }

gone_lost : (setup : Setup) (t : TaskTurn) (key : Parts) (text file : List ℕ) (layouts : List (ℕ × ℕ)) (size : ℕ) (there : List Asking) (name : Option (List ℕ)) (v : Verdict) (answer : Answer) → Asked setup key size there
    → is_gone v ≡ true → length there < count_of size setup.chunk → verdict_stop true v ≡ Some answer
    → RunOf setup t (store_task text file) key layouts (there ++ record { request = None; name = name; verdict = v } ∷ []) (with_size file size []) [] answer
gone_lost setup t key text file layouts size there name v answer k gone few s =
    run_asking_stop setup t key text file layouts there a (with_size file size []) answer (chunked_is setup key size k.chunked) (sized_calls setup t file size (there ++ a ∷ []))
    (asks_of setup t key file size (length there) there (a ∷ []) [] [] k.chunked pieces refl (λ some. absurd (some refl))) refl (all_done_free there k.each_there) (stops_anyhow v false answer s) refl
  where
    a : Asking
    a = record { request = None; name = name; verdict = v }

    by_rest : (m : ℕ) → 0 < m → AskInOrder (chunk_request setup t) (length there + 1) (chunk_keys key setup.chunk (length there + 1) m) (record { request = None; name = name; verdict = v } ∷ [])
    by_rest zero h = absurd (omega arith)
    by_rest (suc m) h = (gone, tt)

    next_is : is_next_copied setup t file (with_size file size []) (length (there ++ record { request = None; name = name; verdict = v } ∷ []) + 1)
        (drop 1 (chunk_parts setup key size (length there + 1) (count_of size setup.chunk - length there))) ≡ true
    next_is =
        let P : List Part → Type 0 = λ l. is_next_copied setup t file (with_size file size []) (length (there ++ a ∷ []) + 1) l ≡ true in
        subst P (sym (drop_range setup key size 1 (length there + 1) (count_of size setup.chunk - length there)))
        (next_of setup t key file size (length (there ++ a ∷ []) + 1) (length there + 1 + 1) (count_of size setup.chunk - length there - 1) (with_size file size []) (λ some. refl))

    pieces : Pieces setup t key file size (length there) there (record { request = None; name = name; verdict = v } ∷ []) []
    pieces = record {
      split = there_split setup key size there (a ∷ []) k refl;
      no_size = refl;
      in_order = k.in_order;
      each_found = all_but_done there k.each_there;
      only_missing = rw (same_self (length there)) refl;
      then_in_order = by_rest (count_of size setup.chunk - length there) (omega arith);
      each_stored = refl;
      each_whole = rw (same_self (length there)) refl;
      next = next_is;
      each_removed = refl;
    }

pub asked_gone : (setup : Setup) (t : TaskTurn) (key : Parts) (text file : List ℕ) (layouts : List (ℕ × ℕ)) (size : ℕ) (there : List Asking) (a : Asking) (answer : Answer) → Asked setup key size there
    → AskInOrder present_request 1 (chunk_keys key setup.chunk 1 (count_of size setup.chunk)) (there ++ a ∷ []) → verdict_stop true a.verdict ≡ Some answer
    → RunOf setup t (store_task text file) key layouts (there ++ a ∷ []) (with_size file size []) [] answer
asked_gone setup t key text file layouts size there a answer k o s =
    by_request a.request o (last_asks present_request key setup.chunk 1 1 (count_of size setup.chunk) there a o)
  where
    by_request : (request : Option HostMessage) → AskInOrder present_request 1 (chunk_keys key setup.chunk 1 (count_of size setup.chunk)) (there ++ record { request = request; name = a.name; verdict = a.verdict } ∷ [])
        → AsksFor present_request (1 + length there) (with_chunk setup.chunk (1 + length there) key) (record { request = request; name = a.name; verdict = a.verdict }) × (length there < count_of size setup.chunk)
        → RunOf setup t (store_task text file) key layouts (there ++ record { request = request; name = a.name; verdict = a.verdict } ∷ []) (with_size file size []) [] answer
    by_request None o r = gone_lost setup t key text file layouts size there a.name a.verdict answer k r.0 r.1 s
    by_request (Some q) o r = gone_kept setup t key text file layouts size there (record { request = Some q; name = a.name; verdict = a.verdict }) answer k o s (rw r.0.0 refl)
