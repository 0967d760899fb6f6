-- How a store in chunks ends, for each way in which a chunk went.
use Rattle.std.proofs.Common.{◌≡◌, ◌∙◌, ℕ, zero, suc, ◌+◌, ◌-◌, ◌^◌, ◌<◌, ◌≤◌, List, [], ◌∷◌, ◌++◌, length, refl, sym, ap, subst, arith, append-nil, append_assoc, take, drop, length-append, eq-eqb}
use Rattle.std.specs.Prelude.{Bool, true, false, ◌&&◌, nat_lt, ◌==◌, bytes_eq, count_by, Option, Some, None, is_some, is_none, Ok, Err}
use Rattle.std.specs.List.{list_all, filter_map, last_or}
use Rattle.std.proofs.lemmas.List.Elements.{filter_map-append}
use Rattle.std.proofs.lemmas.Bool.{and_parts, lt-ltb as lt_true, le-leb as le_true}
use Rattle.std.proofs.lemmas.Bool.Decides.{nat_tests}
use Rattle.ann_key.specs.Keys.{Parts, with_chunk}
use Rattle.annex_model.specs.Messages.{HostMessage}
use Rattle.task_text.specs.Layouts.Layouts.{Part, chunk_part, count_of, from_of, to_of}
use Rattle.journal_model.specs.declared.verdict.Verdict.{Verdict}
use Rattle.journal_model.specs.declared.verdict.Verdict.TheVariants.{Done, Failed, Absent, Unknown, Unsupported, Ended, Unsent}
use Rattle.journal_model.specs.declared.answer.Answer.{Answer}
use Rattle.journal_model.specs.declared.answer.Answer.TheVariants as A
use Rattle.task_text.specs.declared.task.Work.TheVariants as W
use Rattle.ann_outside.specs.declared.file_desk.Call.{Call}
use Rattle.ann_outside.specs.declared.file_desk.Call.TheVariants.{ReadAt, Create, Append, Remove}
use Rattle.task_model.specs.Askers.{Asking, Noting}
use Rattle.task_model.specs.declared.setup.Setup.{Setup}
use Rattle.task_model.specs.declared.turn.TaskTurn.{TaskTurn}
use Rattle.task_model.specs.Stops.{asking_stop, call_stop, verdict_stop, is_done, is_done_at, is_question, last_failed, failed_at}
use Rattle.task_model.specs.Names.{chunk_file, part_of}
use Rattle.task_model.specs.Requests.{AsksFor}
use Rattle.task_model.specs.Layouts.{parts_of_layout}
use Rattle.task_model.specs.Reads.{lengths_found, is_removed}
use Rattle.task_model.specs.Discipline.{are_found}
use Rattle.task_model.specs.Stores.{are_removed, chunk_request, questions, found, transfers, parts_left, fits_length, ChunkStoreAnswers}
use Rattle.task_model.specs.Runs.{RunOf}
use Rattle.task_run.specs.Store.ChunkStoring.{is_missing_at, IsSought}
use Rattle.task_model.proofs.Lists.{none_stop}
use Rattle.task_run.proofs.StoreLemmas.ChunkStoreRuns.{Front, Going, with_size, is_free}
use Rattle.task_run.proofs.StoreLemmas.ChunkStoreParts.{Chunked, chunk_parts, missing_are, parts_many, Split, are_removed_from, count_front, drop_range}
use Rattle.std.specs.List.{concat}
use Rattle.ann_outside.specs.declared.file_desk.DeskError.{DeskError}
use Rattle.ann_outside.specs.declared.file_desk.DeskError.TheVariants as E
use Rattle.task_model.specs.Copying.Copies.{copy_calls, EndsWhole, RefusedBy}
use Rattle.task_model.specs.Copying.CopiesOut.{reads_before}
use Rattle.task_model.specs.Reads.{is_known, piece_of, appended, reads_of, bytes_of}
use Rattle.std.specs.Prelude.{nat_le}
use Rattle.task_model.proofs.FileNames.{chunk_not_part}
use Rattle.task_model.proofs.GetCallsLaws.{found_more, placed, bytes_placed}
use Rattle.task_run.proofs.StoreLemmas.ChunkStoreCalls.{own, Cutting, cutting_removed, Fills, fills_removed, cutting_create, cut_reads, cut_appends}
use Rattle.task_run.proofs.StoreLemmas.ChunkStoreRuns.{front_same, front_asked, still_removed}
use Rattle.task_run.specs.Store.ChunkStoring.{from_file, Cut, Chunk, NotMade, NotCopied, CutShort, Unasked, Undone, Settled, cut_calls, chunk_calls, chunk_asked, chunk_result, ChunkIs, is_settled_at}
use Rattle.task_run.proofs.StoreLemmas.ChunkStoreEnds.{Missing, store_task, are_free, all_done_free, end_memory, end_call, end_asking, calls_of, front_asks, chunked_is, sought_free, sought_length, sought_split, run_finished}
use Rattle.std.proofs.lemmas.List.Folds.{list_all-append}
use Rattle.task_model.specs.Reads.{read_of}
use Rattle.task_model.specs.Reads.{reads_between}
use Rattle.task_model.specs.Stores.{IsShort, is_cut_short, copied_length, stored}
use Rattle.task_model.specs.Ran.{refusal, undone_answer, answered}
use Rattle.task_run.specs.Store.ChunkStoring.{ended, so_far}
use Rattle.task_run.proofs.StoreLemmas.ChunkStoreRuns.{between_only, appended_only}
use Rattle.task_model.specs.Stops.{error_stop}
use Rattle.task_run.proofs.StoreLemmas.ChunkStoreSteps.{Copied, copied_of, last_read, whole_read, early_read, going_stored, removal_of, Removal, full_range}
use Rattle.ann_key.proofs.Lists.{same_name, all_still as all_imp, all_more, other_name}
use Rattle.ann_key.proofs.Booleans.{false_is_true as apart}
use Rattle.ann_key.proofs.Numbers.{same_number as nat_same}
use Rattle.task_model.proofs.Across.{at_end-snoc as at_end_snoc, bytes_more}

-- ---- answers

abbrev Answers : Setup → TaskTurn → Parts → List ℕ → List Asking → List Call → List Noting → Answer → Type 0
Answers setup t key file asked calls noted answer = ChunkStoreAnswers setup t key file asked calls noted answer

pub fits_is : (key : Parts) (file : List ℕ) (size : ℕ) (calls : List Call) → key.size ≡ Some size → fits_length key (lengths_found file (take 1 (with_size file size calls))) ≡ true
fits_is key file size calls e = rw (same_name file) (rw e (nat_same size))

pub stored_is : (asked qs ts : List Asking) (f : ℕ) → Split asked qs ts f → stored asked ≡ f + count_by is_done ts
stored_is asked qs ts f s =
    let P : List Asking → Type 0 = λ l. found asked + count_by is_done (transfers asked) ≡ f + count_by is_done l in
    subst P s.behind (ap (λ n. n + count_by is_done (transfers asked)) s.there)

all_removed : (setup : Setup) (t : TaskTurn) (asked qs ts : List Asking) (f : ℕ) (calls : List Call) → Split asked qs ts f → length qs ≡ f + 1
    → ((c : ℕ) → f < c → c < f + 1 + length ts → is_removed (chunk_file setup t (c + 1)) calls ≡ true) → are_removed setup t calls (questions asked + 1) (transfers asked) ≡ true
all_removed setup t asked qs ts f calls s many r =
    let P : ℕ → Type 0 = λ n. are_removed setup t calls (n + 1) (transfers asked) ≡ true in
    let Q : List Asking → Type 0 = λ l. are_removed setup t calls (f + 1 + 1) l ≡ true in
    subst P (sym (s.so_many ∙ many)) (subst Q (sym s.behind) (are_removed_from setup t (f + 1) calls ts (λ c low high. r c (omega arith) high)))

nat_differ : (a b : ℕ) → a < b → (a == b) ≡ false
nat_differ a b h = grind (arith, nat_tests)

-- of a request that failed
answers_failed : (setup : Setup) (t : TaskTurn) (key : Parts) (file : List ℕ) (size f : ℕ) (asked qs ts : List Asking) (calls : List Call) (answer : Answer) → Chunked setup key size
    → Split asked qs ts f → length qs ≡ f + 1 → ((c : ℕ) → f < c → c < f + 1 + length ts → is_removed (chunk_file setup t (c + 1)) (with_size file size calls) ≡ true)
    → f + count_by is_done ts < count_of size setup.chunk → last_failed asked ≡ Some answer → Answers setup t key file asked (with_size file size calls) [] answer
answers_failed setup t key file size f asked qs ts calls answer k s many r few last = record {
  last_removed = all_removed setup t asked qs ts f (with_size file size calls) s many r;
  answered = rw (fits_is key file size calls k.sized) (rw not_all (rw last refl));
}
  where
    not_all : (stored asked == length (parts_of_layout key setup.chunk)) ≡ false
    not_all =
        let n : stored asked ≡ f + count_by is_done ts = stored_is asked qs ts f s in
        let m : length (parts_of_layout key setup.chunk) ≡ count_of size setup.chunk = parts_many setup key size k in
        nat_differ (stored asked) (length (parts_of_layout key setup.chunk)) (omega (arith, n, m, few))

-- of all chunks
pub answers_stored : (setup : Setup) (t : TaskTurn) (key : Parts) (file : List ℕ) (size f : ℕ) (asked qs ts : List Asking) (calls : List Call) (note : Noting) → Chunked setup key size
    → Split asked qs ts f → length qs ≡ f + 1 → ((c : ℕ) → f < c → c < f + 1 + length ts → is_removed (chunk_file setup t (c + 1)) (with_size file size calls) ≡ true)
    → f + count_by is_done ts ≡ count_of size setup.chunk → Answers setup t key file asked (with_size file size calls) (note ∷ []) A.Stored
answers_stored setup t key file size f asked qs ts calls note k s many r all = record {
  last_removed = all_removed setup t asked qs ts f (with_size file size calls) s many r;
  answered = rw (fits_is key file size calls k.sized) (rw is_all (refl, refl));
}
  where
    is_all : (stored asked == length (parts_of_layout key setup.chunk)) ≡ true
    is_all =
        let m : length (parts_of_layout key setup.chunk) ≡ count_of size setup.chunk = parts_many setup key size k in
        eq-eqb (stored asked) (length (parts_of_layout key setup.chunk)) (stored_is asked qs ts f s ∙ all ∙ sym m)

-- of a chunk that was cut short
answers_short : (setup : Setup) (t : TaskTurn) (key : Parts) (file : List ℕ) (size f c : ℕ) (asked qs ts : List Asking) (calls : List Call) → Chunked setup key size
    → Split asked qs ts f → length qs ≡ f + 1 → ((c : ℕ) → f < c → c < f + 1 + length ts → is_removed (chunk_file setup t (c + 1)) (with_size file size calls) ≡ true)
    → f + count_by is_done ts < count_of size setup.chunk → last_failed asked ≡ None → c ≡ f + 1 + length ts → c ≤ count_of size setup.chunk → length asked + 1 ≡ c + 1
    → is_cut_short setup t file (with_size file size calls) (c + 1) (chunk_part key size setup.chunk c) ≡ true
    → Answers setup t key file asked (with_size file size calls) [] (A.Size (copied_length setup t (with_size file size calls) (c + 1)))
answers_short setup t key file size f c asked qs ts calls k s many r few last place high n h = record {
  last_removed = all_removed setup t asked qs ts f (with_size file size calls) s many r;
  answered = rw (fits_is key file size calls k.sized) (rw not_all (rw last short));
}
  where
    not_all : (stored asked == length (parts_of_layout key setup.chunk)) ≡ false
    not_all =
        let n : stored asked ≡ f + count_by is_done ts = stored_is asked qs ts f s in
        let m : length (parts_of_layout key setup.chunk) ≡ count_of size setup.chunk = parts_many setup key size k in
        nat_differ (stored asked) (length (parts_of_layout key setup.chunk)) (omega (arith, n, m, few))

    left : parts_left key setup.chunk asked ≡ chunk_parts setup key size c (count_of size setup.chunk - f - length ts)
    left =
        ap (λ l. drop (length l) (drop (found asked) (parts_of_layout key setup.chunk))) s.behind
        ∙ ap (λ n. drop (length ts) (drop n (parts_of_layout key setup.chunk))) s.there
        ∙ ap (drop (length ts)) (missing_are setup key size f k)
        ∙ drop_range setup key size (length ts) (f + 1) (count_of size setup.chunk - f)
        ∙ ap (λ m. chunk_parts setup key size m (count_of size setup.chunk - f - length ts)) (sym place)

    missing : nat_lt (found asked) (questions asked) ≡ true
    missing = lt_true (found asked) (questions asked) (omega (arith, s.there, s.so_many, many))

    by_parts : (m : ℕ) → 0 < m → IsShort setup t file asked (with_size file size calls) (chunk_parts setup key size c m) (A.Size (copied_length setup t (with_size file size calls) (c + 1)))
    by_parts zero low = absurd (omega arith)
    by_parts (suc m) low =
        let P : ℕ → Type 0 = λ i. is_cut_short setup t file (with_size file size calls) i (chunk_part key size setup.chunk c) ≡ true in
        let Q : ℕ → Type 0 = λ i. A.Size (copied_length setup t (with_size file size calls) (c + 1)) ≡ A.Size (copied_length setup t (with_size file size calls) i) in
        (missing, subst P (sym n) h, subst Q (sym n) refl)

    short : IsShort setup t file asked (with_size file size calls) (parts_left key setup.chunk asked) (A.Size (copied_length setup t (with_size file size calls) (c + 1)))
    short =
        let R : List Part → Type 0 = λ ps. IsShort setup t file asked (with_size file size calls) ps (A.Size (copied_length setup t (with_size file size calls) (c + 1))) in
        subst R (sym left) (by_parts (count_of size setup.chunk - f - length ts) (omega (arith, place, high)))

-- nothing failed
none_failed : (xs : List Asking) → list_all (λ (a : Asking). is_none (failed_at a.verdict)) xs ≡ true → filter_map (λ (a : Asking). failed_at a.verdict) xs ≡ []
none_failed xs h = none_stop (λ (a : Asking). failed_at a.verdict) xs h

unfailed : (v : Verdict) → is_done_at v ≡ true → is_none (failed_at v) ≡ true
unfailed (Done at) h = refl
unfailed (Failed at) h = apart h
unfailed (Absent at) h = apart h
unfailed (Unknown at) h = apart h
unfailed (Unsupported at) h = apart h
unfailed (Ended why) h = apart h
unfailed Unsent h = apart h

missing_unfailed : (v : Verdict) → is_missing_at v ≡ true → is_none (failed_at v) ≡ true
missing_unfailed (Done at) h = apart h
missing_unfailed (Failed at) h = apart h
missing_unfailed (Absent at) h = refl
missing_unfailed (Unknown at) h = refl
missing_unfailed (Unsupported at) h = refl
missing_unfailed (Ended why) h = apart h
missing_unfailed Unsent h = apart h

sought_unfailed : (key : Parts) (chunk count f : ℕ) (qs ts : List Asking) → IsSought key chunk count f qs → list_all is_done ts ≡ true
    → filter_map (λ (a : Asking). failed_at a.verdict) (qs ++ ts) ≡ []
sought_unfailed key chunk count f qs ts s d = none_failed (qs ++ ts) (all_more (λ (a : Asking). is_none (failed_at a.verdict)) qs ts front (done_all ts d))
  where
    done_all : (xs : List Asking) → list_all is_done xs ≡ true → list_all (λ (a : Asking). is_none (failed_at a.verdict)) xs ≡ true
    done_all xs h = all_imp is_done (λ (a : Asking). is_none (failed_at a.verdict)) (λ a k. unfailed a.verdict k) xs h

    front : list_all (λ (a : Asking). is_none (failed_at a.verdict)) qs ≡ true
    front =
        let P : List Asking → Type 0 = λ l. list_all (λ (a : Asking). is_none (failed_at a.verdict)) l ≡ true in
        subst P (sym s.asked_is) (all_more (λ (a : Asking). is_none (failed_at a.verdict)) s.there (s.one ∷ []) (done_all s.there s.each_there) (rw (missing_unfailed s.one.verdict s.missing) refl))

pub last_failed_is : (xs : List Asking) (a : Asking) (answer : Answer) → filter_map (λ (a : Asking). failed_at a.verdict) xs ≡ [] → failed_at a.verdict ≡ Some answer → last_failed (xs ++ a ∷ []) ≡ Some answer
last_failed_is xs a answer h k = ap (last_or None) (filter_map-append (λ (a : Asking). failed_at a.verdict) xs (a ∷ []) ∙ ap (λ l. l ++ filter_map (λ (a : Asking). failed_at a.verdict) (a ∷ [])) h) ∙ rw k refl

-- ---- one chunk

cutting_more : (file name : List ℕ) (from to : ℕ) (calls : List Call) (x : Call) → Cutting file name from to calls → own file name from x ≡ true → reads_of file (x ∷ []) ≡ []
    → filter_map (piece_of name) (x ∷ []) ≡ [] → Cutting file name from to (calls ++ x ∷ [])
cutting_more file name from to calls x c o r n = record {
  own_all = all_more (own file name from) calls (x ∷ []) c.own_all (rw o refl);
  run = rw reads c.run;
  front = rw (wrote, reads) c.front;
  within = rw reads c.within;
}
  where
    reads : reads_of file (calls ++ x ∷ []) ≡ reads_of file calls
    reads = filter_map-append (read_of file) calls (x ∷ []) ∙ ap (λ l. reads_of file calls ++ l) r ∙ append-nil (reads_of file calls)

    wrote : appended name (calls ++ x ∷ []) ≡ appended name calls
    wrote = ap concat (filter_map-append (piece_of name) calls (x ∷ []) ∙ ap (λ l. filter_map (piece_of name) calls ++ l) n ∙ append-nil (filter_map (piece_of name) calls))

within_front : (to : ℕ) (xs ys zs : List Call) → list_all (reads_before to) (xs ++ (ys ++ zs)) ≡ true → list_all (reads_before to) (xs ++ ys) ≡ true
within_front to xs ys zs h =
    let e : (xs ++ ys) ++ zs ≡ xs ++ (ys ++ zs) = append_assoc xs ys zs in
    let P : List Call → Type 0 = λ l. list_all (reads_before to) l ≡ true in
    let k : list_all (reads_before to) ((xs ++ ys) ++ zs) ≡ true = subst P (sym e) h in
    let s : list_all (reads_before to) ((xs ++ ys) ++ zs) ≡ (list_all (reads_before to) (xs ++ ys) && list_all (reads_before to) zs) = list_all-append (reads_before to) (xs ++ ys) zs in
    (and_parts (list_all (reads_before to) (xs ++ ys)) (list_all (reads_before to) zs) (sym s ∙ k)).0

pub asks_as : (setup : Setup) (t : TaskTurn) (n : ℕ) (key : Parts) (request : Option HostMessage) (v : Verdict) → AsksFor (from_file (chunk_file setup t n)) 1 key (record { request = request; name = None; verdict = v })
    → AsksFor (chunk_request setup t) n key (record { request = request; name = None; verdict = v })
asks_as setup t n key None v h = h
asks_as setup t n key (Some q) v h = h

pub no_question : (name : List ℕ) (key : Parts) (request : Option HostMessage) (v : Verdict) → AsksFor (from_file name) 1 key (record { request = request; name = None; verdict = v })
    → is_question (record { request = request; name = None; verdict = v }) ≡ false
no_question name key None v h = refl
no_question name key (Some q) v h = rw h.0 refl

-- what a chunk that was stored makes of the store
pub chunk_goes : (setup : Setup) (t : TaskTurn) (key : Parts) (file : List ℕ) (size f : ℕ) (ts : List Asking) (calls : List Call) (c : ℕ) (pieces : List (List ℕ)) (ending : List Call) (a : Asking)
    → Chunked setup key size → count_of size setup.chunk + 1 < 2 ^ 64 → Going setup t key file size f ts calls c → c ≤ count_of size setup.chunk
    → ChunkIs file (chunk_file setup t (c + 1)) (from_of setup.chunk c) (to_of size setup.chunk c) (with_chunk setup.chunk c key) (Settled pieces ending a (Ok tt)) → is_done a ≡ true
    → Going setup t key file size f (ts ++ a ∷ []) (calls ++ chunk_calls file (chunk_file setup t (c + 1)) (from_of setup.chunk c) (Settled pieces ending a (Ok tt))) (c + 1)
chunk_goes setup t key file size f ts calls c pieces ending a chunked small g last so d =
    going_stored setup t key file size f ts calls (cut_calls file name from pieces ending) c a g last small copied (asks_as setup t (c + 1) (with_chunk setup.chunk c key) a.request a.verdict so.2)
    (no_question name (with_chunk setup.chunk c key) a.request a.verdict so.2) d (ap length (cut_appends file name from pieces ending unwritten) ∙ so.1) other
  where
    name : List ℕ
    name = chunk_file setup t (c + 1)

    from : ℕ
    from = from_of setup.chunk c

    at : ℕ
    at = from_of setup.chunk c + length (concat pieces)

    read : (o : Option (List ℕ)) × (ending ≡ last_read file (from_of setup.chunk c + length (concat pieces)) o)
    read = whole_read file at ((to_of size setup.chunk c - from) - length (concat pieces)) ending so.0.ends

    copied : Copied setup t file size c calls (cut_calls file (chunk_file setup t (c + 1)) (from_of setup.chunk c) pieces ending)
    copied =
        let P : List Call → Type 0 = λ l. Copied setup t file size c calls (cut_calls file name from pieces l) in
        let Q : List Call → Type 0 = λ l. list_all (reads_before (to_of size setup.chunk c)) (copy_calls file name from pieces ++ l) ≡ true in
        subst P (sym read.1) (copied_of setup t key file size f ts calls c pieces read.0 g last (subst Q read.1 so.0.within))

    unwritten : filter_map (piece_of (chunk_file setup t (c + 1))) ending ≡ []
    unwritten = let P : List Call → Type 0 = λ l. filter_map (piece_of name) l ≡ [] in subst P (sym read.1) (none read.0)
      where
        none : (o : Option (List ℕ)) → filter_map (piece_of (chunk_file setup t (c + 1))) (last_read file (from_of setup.chunk c + length (concat pieces)) o) ≡ []
        none None = refl
        none (Some piece) = refl

    some_chunk : (n : ℕ) → (n == 0) ≡ false → 0 < n
    some_chunk zero h = apart (sym h)
    some_chunk (suc n) h = omega arith

    other : c < count_of size setup.chunk → bytes_eq file (chunk_file setup t (c + 1)) ≡ false
    other next = other_name file name (λ same. absurd (omega (arith, so.0.itself same, so.1, full_range size setup.chunk c (some_chunk setup.chunk chunked.some) (omega (arith, g.so_many)) next)))

pub all_counted : (ts : List Asking) → list_all is_done ts ≡ true → count_by is_done ts ≡ length ts
all_counted ts h = ap (count_by is_done) (sym (append-nil ts)) ∙ count_front is_done ts [] h refl

pub whole_unwritten : (file name : List ℕ) (at left : ℕ) (ending : List Call) → EndsWhole file at left ending → filter_map (piece_of name) ending ≡ []
whole_unwritten file name at left [] e = refl
whole_unwritten file name at left (call ∷ []) e = rw e refl
whole_unwritten file name at left (call ∷ next ∷ more) e = absurd e

-- the answer of a request that stops the task
stop_answer : (v : Verdict) → is_some (verdict_stop false v) ≡ true → (answer : Answer) × (verdict_stop false v ≡ Some answer) × (undone_answer v ≡ Some answer)
stop_answer (Ended why) h = (A.Ended why, refl, refl)
stop_answer Unsent h = (A.Unsent, refl, refl)
stop_answer (Unsupported at) h = (A.Unsupported, refl, refl)
stop_answer (Done at) h = apart h
stop_answer (Failed at) h = apart h
stop_answer (Absent at) h = apart h
stop_answer (Unknown at) h = apart h

settled_free : (v : Verdict) (b : Bool) → is_settled_at v ≡ true → is_none (verdict_stop b v) ≡ true
settled_free (Done at) b h = refl
settled_free (Failed at) b h = refl
settled_free (Ended why) b h = apart h
settled_free Unsent b h = apart h
settled_free (Unsupported at) b h = apart h
settled_free (Absent at) b h = apart h
settled_free (Unknown at) b h = apart h

-- how a chunk that was not stored ends the store
pub chunk_ends : (setup : Setup) (t : TaskTurn) (key : Parts) (text file : List ℕ) (layouts : List (ℕ × ℕ)) (size f : ℕ) (qs ts : List Asking) (calls : List Call) (c : ℕ) (how : Chunk)
    → Missing setup key size f qs → Going setup t key file size f ts calls c → c ≤ count_of size setup.chunk
    → ChunkIs file (chunk_file setup t (c + 1)) (from_of setup.chunk c) (to_of size setup.chunk c) (with_chunk setup.chunk c key) how → (chunk_result how ≡ Ok None → ⊥)
    → RunOf setup t (store_task text file) key layouts (qs ++ (ts ++ chunk_asked how)) (with_size file size (calls ++ chunk_calls file (chunk_file setup t (c + 1)) (from_of setup.chunk c) how)) []
    (answered (so_far (chunk_result how)))
chunk_ends setup t key text file layouts size f qs ts calls c how m g last so ne = by_how how so ne
  where
    name : List ℕ
    name = chunk_file setup t (c + 1)

    from : ℕ
    from = from_of setup.chunk c

    to : ℕ
    to = to_of size setup.chunk c

    small : c + 1 < 2 ^ 64
    small = omega (arith, m.small)

    most : f + length ts ≤ count_of size setup.chunk
    most = omega (arith, g.so_many)

    free_ts : are_free ts ≡ true
    free_ts = all_done_free ts g.all_stored

    at_of : List (List ℕ) → ℕ
    at_of pieces = from_of setup.chunk c + length (concat pieces)

    cut : List (List ℕ) → List Call → List Call
    cut pieces ending = cut_calls file (chunk_file setup t (c + 1)) (from_of setup.chunk c) pieces ending

    -- nothing more was asked
    unasked : (more : List Call) (answer : Answer) → RunOf setup t (store_task text file) key layouts (qs ++ ts) (with_size file size (calls ++ more)) [] answer
        → RunOf setup t (store_task text file) key layouts (qs ++ (ts ++ [])) (with_size file size (calls ++ more)) [] answer
    unasked more answer h =
        let P : List Asking → Type 0 = λ l. RunOf setup t (store_task text file) key layouts (qs ++ l) (with_size file size (calls ++ more)) [] answer in
        subst P (sym (append-nil ts)) h

    -- running out of memory after calls of the chunk
    memory : (more : List Call) → Copied setup t file size c calls more → RunOf setup t (store_task text file) key layouts (qs ++ (ts ++ [])) (with_size file size (calls ++ more)) [] A.Memory
    memory more x = unasked more A.Memory (end_memory setup t key text file layouts size f qs ts (calls ++ more) m most
        (front_same setup t key file size f ts calls more c g last small x.cutting x.found) free_ts (all_more (λ call. is_none (call_stop (part_of file) call)) calls more g.free x.free))

    none_more : RunOf setup t (store_task text file) key layouts (qs ++ (ts ++ [])) (with_size file size (calls ++ [])) [] A.Memory
    none_more =
        let P : List Call → Type 0 = λ l. RunOf setup t (store_task text file) key layouts (qs ++ ts) (with_size file size l) [] A.Memory in
        unasked [] A.Memory (subst P (sym (append-nil calls)) (end_memory setup t key text file layouts size f qs ts calls m most g.front free_ts g.free))

    -- a call that stops after calls of the chunk
    stopped : (more : List Call) (x : Call) (answer : Answer) → Cutting file (chunk_file setup t (c + 1)) (from_of setup.chunk c) (to_of size setup.chunk c) (more ++ x ∷ [])
        → are_found (part_of file) (with_size file size calls) (more ++ x ∷ []) ≡ true → is_free file more ≡ true → call_stop (part_of file) x ≡ Some answer
        → RunOf setup t (store_task text file) key layouts (qs ++ (ts ++ [])) (with_size file size (calls ++ (more ++ x ∷ []))) [] answer
    stopped more x answer k is_found free s =
        let e : (calls ++ more) ++ x ∷ [] ≡ calls ++ (more ++ x ∷ []) = append_assoc calls more (x ∷ []) in
        let P : List Call → Type 0 = λ l. RunOf setup t (store_task text file) key layouts (qs ++ ts) (with_size file size l) [] answer in
        let Q : List Call → Type 0 = λ l. Front setup t key file size f ts l in
        unasked (more ++ x ∷ []) answer (subst P e (end_call setup t key text file layouts size f qs ts (calls ++ more) x answer m most
        (subst Q (sym e) (front_same setup t key file size f ts calls (more ++ x ∷ []) c g last small k is_found)) free_ts
        (all_more (λ call. is_none (call_stop (part_of file) call)) calls more g.free free) s))

    -- after pieces and perhaps one more read
    copied : (pieces : List (List ℕ)) (o : Option (List ℕ)) (ending : List Call) → ending ≡ last_read file (from_of setup.chunk c + length (concat pieces)) o
        → list_all (reads_before (to_of size setup.chunk c)) (copy_calls file (chunk_file setup t (c + 1)) (from_of setup.chunk c) pieces ++ ending) ≡ true
        → Copied setup t file size c calls (cut_calls file (chunk_file setup t (c + 1)) (from_of setup.chunk c) pieces ending)
    copied pieces o ending e w =
        let P : List Call → Type 0 = λ l. Copied setup t file size c calls (cut_calls file name from pieces l) in
        let Q : List Call → Type 0 = λ l. list_all (reads_before to) (copy_calls file name from pieces ++ l) ≡ true in
        subst P (sym e) (copied_of setup t key file size f ts calls c pieces o g last (subst Q e w))

    -- a call that was refused after them
    refused : (pieces : List (List ℕ)) (o : Option (List ℕ)) (x : Call) (answer : Answer)
        → list_all (reads_before (to_of size setup.chunk c)) (copy_calls file (chunk_file setup t (c + 1)) (from_of setup.chunk c) pieces ++ (last_read file (from_of setup.chunk c + length (concat pieces)) o ++ x ∷ [])) ≡ true
        → own file (chunk_file setup t (c + 1)) (from_of setup.chunk c) x ≡ true → reads_of file (x ∷ []) ≡ [] → filter_map (piece_of (chunk_file setup t (c + 1))) (x ∷ []) ≡ []
        → ((past : List Call) → is_known file past ≡ true → is_known (chunk_file setup t (c + 1)) past ≡ true → are_found (part_of file) past (x ∷ []) ≡ true)
        → call_stop (part_of file) x ≡ Some answer
        → RunOf setup t (store_task text file) key layouts (qs ++ (ts ++ []))
        (with_size file size (calls ++ cut_calls file (chunk_file setup t (c + 1)) (from_of setup.chunk c) pieces (last_read file (from_of setup.chunk c + length (concat pieces)) o ++ x ∷ []))) [] answer
    refused pieces o x answer w o_x r_x p_x f_x s =
        let k : Copied setup t file size c calls (cut_calls file name from pieces (last_read file (at_of pieces) o)) =
        copied pieces o (last_read file (at_of pieces) o) refl (within_front to (copy_calls file name from pieces) (last_read file (at_of pieces) o) (x ∷ []) w) in
        let e : cut_calls file name from pieces (last_read file (at_of pieces) o) ++ x ∷ [] ≡ cut_calls file name from pieces (last_read file (at_of pieces) o ++ x ∷ []) =
        ap (λ l. Create name (Ok tt) ∷ l) (append_assoc (copy_calls file name from pieces) (last_read file (at_of pieces) o) (x ∷ [])) in
        let P : List Call → Type 0 = λ l. RunOf setup t (store_task text file) key layouts (qs ++ (ts ++ [])) (with_size file size (calls ++ l)) [] answer in
        subst P e (stopped (cut_calls file name from pieces (last_read file (at_of pieces) o)) x answer
        (cutting_more file name from to (cut_calls file name from pieces (last_read file (at_of pieces) o)) x k.cutting o_x r_x p_x)
        (found_more (part_of file) (with_size file size calls) (cut_calls file name from pieces (last_read file (at_of pieces) o)) (x ∷ []) k.found
        (f_x (with_size file size (calls ++ cut_calls file name from pieces (last_read file (at_of pieces) o))) k.filed k.named)) k.free s)

    no_copy : (e : DeskError) (answer : Answer) (pieces : List (List ℕ)) (ending : List Call) → error_stop false e ≡ Some answer
        → RefusedBy e file (chunk_file setup t (c + 1)) (from_of setup.chunk c + length (concat pieces)) ending
        → list_all (reads_before (to_of size setup.chunk c)) (copy_calls file (chunk_file setup t (c + 1)) (from_of setup.chunk c) pieces ++ ending) ≡ true
        → RunOf setup t (store_task text file) key layouts (qs ++ (ts ++ [])) (with_size file size (calls ++ cut_calls file (chunk_file setup t (c + 1)) (from_of setup.chunk c) pieces ending)) [] answer
    no_copy e answer pieces [] s h w = absurd h
    no_copy e answer pieces (call ∷ []) s h w =
        let P : Call → Type 0 = λ x. RunOf setup t (store_task text file) key layouts (qs ++ (ts ++ [])) (with_size file size (calls ++ cut pieces (x ∷ []))) [] answer in
        let Q : Call → Type 0 = λ x. list_all (reads_before to) (copy_calls file name from pieces ++ x ∷ []) ≡ true in
        let low : nat_le from (at_of pieces) ≡ true = le_true from (at_of pieces) (omega arith) in
        subst P (sym h) (refused pieces None (ReadAt file (at_of pieces) (Err e)) answer (subst Q h w) (rw (same_name file, low) refl) (rw (same_name file) refl) refl (λ past k n. rw k refl) s)
    no_copy e answer pieces (call ∷ next ∷ []) s h w =
        let P : Call → Type 0 = λ x. RunOf setup t (store_task text file) key layouts (qs ++ (ts ++ [])) (with_size file size (calls ++ cut pieces (x ∷ next ∷ []))) [] answer in
        let R : Call → Type 0 = λ x. RunOf setup t (store_task text file) key layouts (qs ++ (ts ++ [])) (with_size file size (calls ++ cut pieces (ReadAt file (at_of pieces) (Ok h.0) ∷ x ∷ []))) [] answer in
        let Q : Call → Type 0 = λ x. list_all (reads_before to) (copy_calls file name from pieces ++ x ∷ next ∷ []) ≡ true in
        let S : Call → Type 0 = λ x. list_all (reads_before to) (copy_calls file name from pieces ++ ReadAt file (at_of pieces) (Ok h.0) ∷ x ∷ []) ≡ true in
        subst P (sym h.1) (subst R (sym h.2) (refused pieces (Some h.0) (Append name h.0 (Err e)) answer (subst S h.2 (subst Q h.1 w)) (same_name name) refl (rw (same_name name) refl) (λ past k n. rw n refl) s))
    no_copy e answer pieces (call ∷ next ∷ another ∷ more) s h w = absurd h

    -- what was cut short
    cut_short : (pieces : List (List ℕ)) (ending : List Call) → Cut file (chunk_file setup t (c + 1)) (from_of setup.chunk c) (to_of size setup.chunk c) pieces ending
        → length (concat pieces) < to_of size setup.chunk c - from_of setup.chunk c
        → RunOf setup t (store_task text file) key layouts (qs ++ ts) (with_size file size (calls ++ cut_calls file (chunk_file setup t (c + 1)) (from_of setup.chunk c) pieces ending)) [] (A.Size (length (concat pieces)))
    cut_short pieces ending k short = subst (λ (n : ℕ). RunOf setup t (store_task text file) key layouts (qs ++ ts) (with_size file size (calls ++ cut pieces ending)) [] (A.Size n)) long
        (run_finished setup t key text file layouts (qs ++ ts) (with_size file size (calls ++ cut pieces ending)) [] (A.Size (copied_length setup t (with_size file size (calls ++ cut pieces ending)) (c + 1)))
        (chunked_is setup key size m.chunked) (calls_of setup t key file size f qs ts (calls ++ cut pieces ending) m front) (front_asks setup t key file size f qs ts (calls ++ cut pieces ending) m most front) front.found
        (all_more (λ a. is_none (asking_stop W.Store a)) qs ts (sought_free key setup.chunk (count_of size setup.chunk) f qs m.sought) free_ts)
        (all_more (λ call. is_none (call_stop (part_of file) call)) calls (cut pieces ending) g.free x.free)
        (rw (chunked_is setup key size m.chunked) (answers_short setup t key file size f c (qs ++ ts) qs ts (calls ++ cut pieces ending) m.chunked
        (sought_split key setup.chunk (count_of size setup.chunk) f qs ts m.sought g.front.no_questions) (sought_length key setup.chunk (count_of size setup.chunk) f qs m.sought)
        (λ j low high. still_removed setup t file size j c from calls (cut pieces ending) (omega (arith, g.so_many)) small x.cutting.own_all (g.others last j low (omega (arith, g.so_many))) (g.removed j low (omega (arith, g.so_many))))
        few (ap (last_or None) (sought_unfailed key setup.chunk (count_of size setup.chunk) f qs ts m.sought g.all_stored)) (sym g.so_many) last
        (omega (arith, length-append qs ts, sought_length key setup.chunk (count_of size setup.chunk) f qs m.sought, g.so_many)) is_short)))
      where
        r : (o : Option (List ℕ)) × (ending ≡ last_read file (from_of setup.chunk c + length (concat pieces)) o)
        r = whole_read file (at_of pieces) ((to - from) - length (concat pieces)) ending k.ends

        x : Copied setup t file size c calls (cut_calls file (chunk_file setup t (c + 1)) (from_of setup.chunk c) pieces ending)
        x = copied pieces r.0 ending r.1 k.within

        front : Front setup t key file size f ts (calls ++ cut_calls file (chunk_file setup t (c + 1)) (from_of setup.chunk c) pieces ending)
        front = front_same setup t key file size f ts calls (cut pieces ending) c g last small x.cutting x.found

        few : f + count_by is_done ts < count_of size setup.chunk
        few = omega (arith, all_counted ts g.all_stored, g.so_many)

        last_is : (ending : List Call) → EndsWhole file (from_of setup.chunk c + length (concat pieces)) (to_of size setup.chunk c - from_of setup.chunk c - length (concat pieces)) ending
            → ending ≡ ReadAt file (from_of setup.chunk c + length (concat pieces)) (Ok []) ∷ []
        last_is [] e = absurd (omega (arith, short, e))
        last_is (call ∷ []) e = ap (λ y. y ∷ []) e
        last_is (call ∷ next ∷ more) e = absurd e

        reads : reads_between file (from_of setup.chunk c) (to_of size setup.chunk c) (calls ++ cut_calls file (chunk_file setup t (c + 1)) (from_of setup.chunk c) pieces ending)
            ≡ placed (from_of setup.chunk c) pieces ++ (from_of setup.chunk c + length (concat pieces), []) ∷ []
        reads =
            between_only file from to calls (cut pieces ending) g.before x.cutting.within ∙ cut_reads file name from pieces ending
            ∙ ap (λ l. placed from pieces ++ reads_of file l) (last_is ending k.ends)
            ∙ ap (λ l. placed from pieces ++ l) one_read
          where
            one_read : reads_of file (ReadAt file (from_of setup.chunk c + length (concat pieces)) (Ok []) ∷ []) ≡ (from_of setup.chunk c + length (concat pieces), []) ∷ []
            one_read = rw (same_name file) refl

        unwritten : filter_map (piece_of (chunk_file setup t (c + 1))) ending ≡ []
        unwritten = let P : List Call → Type 0 = λ l. filter_map (piece_of name) l ≡ [] in subst P (sym (last_is ending k.ends)) refl

        wrote : appended (chunk_file setup t (c + 1)) (calls ++ cut_calls file (chunk_file setup t (c + 1)) (from_of setup.chunk c) pieces ending) ≡ concat pieces
        wrote = appended_only name calls (cut pieces ending) (g.fresh c (omega arith) small) ∙ cut_appends file name from pieces ending unwritten

        long : copied_length setup t (with_size file size (calls ++ cut_calls file (chunk_file setup t (c + 1)) (from_of setup.chunk c) pieces ending)) (c + 1) ≡ length (concat pieces)
        long = ap length wrote

        bytes : bytes_of (placed (from_of setup.chunk c) pieces ++ (from_of setup.chunk c + length (concat pieces), []) ∷ []) ≡ concat pieces
        bytes = bytes_more (placed from pieces) ((at_of pieces, []) ∷ []) ∙ append-nil (bytes_of (placed from pieces)) ∙ bytes_placed from pieces

        is_short : is_cut_short setup t file (with_size file size (calls ++ cut_calls file (chunk_file setup t (c + 1)) (from_of setup.chunk c) pieces ending)) (c + 1) (chunk_part key size setup.chunk c) ≡ true
        is_short = rw (reads, wrote) (rw (at_end_snoc (placed from pieces) (at_of pieces), bytes) (rw (same_name (concat pieces), lt_true (length (concat pieces)) (to - from) short) refl))

    -- the range was copied whole
    all_copied : (pieces : List (List ℕ)) (ending : List Call) → Cut file (chunk_file setup t (c + 1)) (from_of setup.chunk c) (to_of size setup.chunk c) pieces ending
        → Copied setup t file size c calls (cut_calls file (chunk_file setup t (c + 1)) (from_of setup.chunk c) pieces ending)
    all_copied pieces ending k =
        let r : (o : Option (List ℕ)) × (ending ≡ last_read file (at_of pieces) o) = whole_read file (at_of pieces) ((to - from) - length (concat pieces)) ending k.ends in
        copied pieces r.0 ending r.1 k.within

    wrote_all : (pieces : List (List ℕ)) (ending : List Call) → Cut file (chunk_file setup t (c + 1)) (from_of setup.chunk c) (to_of size setup.chunk c) pieces ending
        → length (concat pieces) ≡ to_of size setup.chunk c - from_of setup.chunk c
        → length (appended (chunk_file setup t (c + 1)) (cut_calls file (chunk_file setup t (c + 1)) (from_of setup.chunk c) pieces ending)) ≡ to_of size setup.chunk c - from_of setup.chunk c
    wrote_all pieces ending k l = ap length (cut_appends file name from pieces ending (whole_unwritten file name (at_of pieces) ((to - from) - length (concat pieces)) ending k.ends)) ∙ l

    most_too : (a : Asking) → f + length (ts ++ a ∷ []) ≤ count_of size setup.chunk
    most_too a = omega (arith, length-append ts (a ∷ []), g.so_many)

    asked_front : (more : List Call) (a : Asking) → Cutting file (chunk_file setup t (c + 1)) (from_of setup.chunk c) (to_of size setup.chunk c) more
        → are_found (part_of file) (with_size file size calls) more ≡ true → AsksFor (from_file (chunk_file setup t (c + 1))) 1 (with_chunk setup.chunk c key) a
        → length (appended (chunk_file setup t (c + 1)) more) ≡ to_of size setup.chunk c - from_of setup.chunk c → Fills (chunk_file setup t (c + 1)) more
        → Front setup t key file size f (ts ++ a ∷ []) (calls ++ more)
    asked_front more a k is_found h l fills =
        front_asked setup t key file size f ts calls more c a g last m.small k is_found (asks_as setup t (c + 1) (with_chunk setup.chunk c key) a.request a.verdict h)
        (no_question name (with_chunk setup.chunk c key) a.request a.verdict h) l fills

    undone : (pieces : List (List ℕ)) (ending : List Call) (a : Asking) → Cut file (chunk_file setup t (c + 1)) (from_of setup.chunk c) (to_of size setup.chunk c) pieces ending
        → length (concat pieces) ≡ to_of size setup.chunk c - from_of setup.chunk c → AsksFor (from_file (chunk_file setup t (c + 1))) 1 (with_chunk setup.chunk c key) a
        → is_some (verdict_stop false a.verdict) ≡ true
        → RunOf setup t (store_task text file) key layouts (qs ++ (ts ++ a ∷ [])) (with_size file size (calls ++ cut_calls file (chunk_file setup t (c + 1)) (from_of setup.chunk c) pieces ending)) []
        (answered (so_far (Ok (undone_answer a.verdict))))
    undone pieces ending a k l h s =
        let v : (answer : Answer) × (verdict_stop false a.verdict ≡ Some answer) × (undone_answer a.verdict ≡ Some answer) = stop_answer a.verdict s in
        let x : Copied setup t file size c calls (cut_calls file name from pieces ending) = all_copied pieces ending k in
        let P : Option Answer → Type 0 = λ o. RunOf setup t (store_task text file) key layouts (qs ++ (ts ++ a ∷ [])) (with_size file size (calls ++ cut pieces ending)) [] (answered (so_far (Ok o))) in
        let stops : asking_stop W.Store a ≡ Some v.0 = rw (no_question name (with_chunk setup.chunk c key) a.request a.verdict h) v.1 in
        subst P (sym v.2) (end_asking setup t key text file layouts size f qs ts a (calls ++ cut pieces ending) v.0 m (most_too a)
        (asked_front (cut pieces ending) a x.cutting x.found h (wrote_all pieces ending k l) x.fills) free_ts stops
        (all_more (λ call. is_none (call_stop (part_of file) call)) calls (cut pieces ending) g.free x.free))

    free_too : (a : Asking) → is_settled_at a.verdict ≡ true → are_free (ts ++ a ∷ []) ≡ true
    free_too a h = all_more (λ q. is_none (asking_stop W.Store q)) ts (a ∷ []) free_ts (rw (settled_free a.verdict (is_question a) h) refl)

    -- the removal of the chunk's file was refused
    removal_stopped : (pieces : List (List ℕ)) (ending : List Call) (a : Asking) (e : DeskError) (answer : Answer)
        → Cut file (chunk_file setup t (c + 1)) (from_of setup.chunk c) (to_of size setup.chunk c) pieces ending
        → length (concat pieces) ≡ to_of size setup.chunk c - from_of setup.chunk c → AsksFor (from_file (chunk_file setup t (c + 1))) 1 (with_chunk setup.chunk c key) a
        → is_settled_at a.verdict ≡ true → call_stop (part_of file) (Remove (chunk_file setup t (c + 1)) (Err e)) ≡ Some answer
        → RunOf setup t (store_task text file) key layouts (qs ++ (ts ++ a ∷ []))
        (with_size file size (calls ++ (cut_calls file (chunk_file setup t (c + 1)) (from_of setup.chunk c) pieces ending ++ Remove (chunk_file setup t (c + 1)) (Err e) ∷ []))) [] answer
    removal_stopped pieces ending a e answer k l h s stop =
        let x : Copied setup t file size c calls (cut_calls file name from pieces ending) = all_copied pieces ending k in
        let gone : Call = Remove name (Err e) in
        let j : (calls ++ cut pieces ending) ++ Remove name (Err e) ∷ [] ≡ calls ++ (cut pieces ending ++ Remove name (Err e) ∷ []) = append_assoc calls (cut pieces ending) (Remove name (Err e) ∷ []) in
        let P : List Call → Type 0 = λ q. RunOf setup t (store_task text file) key layouts (qs ++ (ts ++ a ∷ [])) (with_size file size q) [] answer in
        let Q : List Call → Type 0 = λ q. Front setup t key file size f (ts ++ a ∷ []) q in
        let wrote : appended name (cut pieces ending ++ Remove name (Err e) ∷ []) ≡ appended name (cut pieces ending) =
        ap concat (filter_map-append (piece_of name) (cut pieces ending) (Remove name (Err e) ∷ []) ∙ append-nil (filter_map (piece_of name) (cut pieces ending))) in
        let removes : are_found (part_of file) (with_size file size (calls ++ cut pieces ending)) (Remove name (Err e) ∷ []) ≡ true = rw (chunk_not_part setup t (c + 1) file) (rw x.named refl) in
        subst P j (end_call setup t key text file layouts size f qs (ts ++ a ∷ []) (calls ++ cut pieces ending) (Remove name (Err e)) answer m (most_too a)
        (subst Q (sym j) (asked_front (cut pieces ending ++ Remove name (Err e) ∷ []) a (cutting_removed file name from to (cut pieces ending) (Err e) x.cutting)
        (found_more (part_of file) (with_size file size calls) (cut pieces ending) (Remove name (Err e) ∷ []) x.found removes) h (ap length wrote ∙ wrote_all pieces ending k l) (fills_removed name (cut pieces ending) (Err e) x.fills)))
        (free_too a s) (all_more (λ call. is_none (call_stop (part_of file) call)) calls (cut pieces ending) g.free x.free) stop)

    -- the chunk's file wasn't removed
    unremoved : (pieces : List (List ℕ)) (ending : List Call) (a : Asking) (e : DeskError) → Cut file (chunk_file setup t (c + 1)) (from_of setup.chunk c) (to_of size setup.chunk c) pieces ending
        → length (concat pieces) ≡ to_of size setup.chunk c - from_of setup.chunk c → AsksFor (from_file (chunk_file setup t (c + 1))) 1 (with_chunk setup.chunk c key) a
        → is_settled_at a.verdict ≡ true
        → RunOf setup t (store_task text file) key layouts (qs ++ (ts ++ a ∷ []))
        (with_size file size (calls ++ chunk_calls file (chunk_file setup t (c + 1)) (from_of setup.chunk c) (Settled pieces ending a (Err e)))) [] (answered (so_far (ended (refusal e))))
    unremoved pieces ending a E.NoMemory k l h s =
        let x : Copied setup t file size c calls (cut_calls file name from pieces ending) = all_copied pieces ending k in
        let P : List Call → Type 0 = λ q. RunOf setup t (store_task text file) key layouts (qs ++ (ts ++ a ∷ [])) (with_size file size (calls ++ q)) [] A.Memory in
        subst P (sym (append-nil (cut pieces ending))) (end_memory setup t key text file layouts size f qs (ts ++ a ∷ []) (calls ++ cut pieces ending) m (most_too a)
        (asked_front (cut pieces ending) a x.cutting x.found h (wrote_all pieces ending k l) x.fills) (free_too a s)
        (all_more (λ call. is_none (call_stop (part_of file) call)) calls (cut pieces ending) g.free x.free))
    unremoved pieces ending a E.Failed k l h s = removal_stopped pieces ending a E.Failed A.FileFault k l h s refl
    unremoved pieces ending a E.Missing k l h s = removal_stopped pieces ending a E.Missing A.NoFile k l h s (rw (chunk_not_part setup t (c + 1) file) refl)

    -- the request failed, and the chunk's file was removed
    failed : (pieces : List (List ℕ)) (ending : List Call) (a : Asking) (at : ℕ) → Cut file (chunk_file setup t (c + 1)) (from_of setup.chunk c) (to_of size setup.chunk c) pieces ending
        → length (concat pieces) ≡ to_of size setup.chunk c - from_of setup.chunk c → AsksFor (from_file (chunk_file setup t (c + 1))) 1 (with_chunk setup.chunk c key) a
        → a.verdict ≡ Failed at
        → RunOf setup t (store_task text file) key layouts (qs ++ (ts ++ a ∷ []))
        (with_size file size (calls ++ (cut_calls file (chunk_file setup t (c + 1)) (from_of setup.chunk c) pieces ending ++ Remove (chunk_file setup t (c + 1)) (Ok tt) ∷ []))) [] (A.Failed at)
    failed pieces ending a at k l h v =
        run_finished setup t key text file layouts (qs ++ (ts ++ a ∷ [])) (with_size file size (calls ++ (cut pieces ending ++ Remove name (Ok tt) ∷ []))) [] (A.Failed at)
        (chunked_is setup key size m.chunked) (calls_of setup t key file size f qs (ts ++ a ∷ []) (calls ++ (cut pieces ending ++ Remove name (Ok tt) ∷ [])) m r.front)
        (front_asks setup t key file size f qs (ts ++ a ∷ []) (calls ++ (cut pieces ending ++ Remove name (Ok tt) ∷ [])) m (most_too a) r.front) r.front.found
        (all_more (λ q. is_none (asking_stop W.Store q)) qs (ts ++ a ∷ []) (sought_free key setup.chunk (count_of size setup.chunk) f qs m.sought) (free_too a settled)) r.free
        (rw (chunked_is setup key size m.chunked) (answers_failed setup t key file size f (qs ++ (ts ++ a ∷ [])) qs (ts ++ a ∷ []) (calls ++ (cut pieces ending ++ Remove name (Ok tt) ∷ [])) (A.Failed at) m.chunked
        (sought_split key setup.chunk (count_of size setup.chunk) f qs (ts ++ a ∷ []) m.sought r.front.no_questions) (sought_length key setup.chunk (count_of size setup.chunk) f qs m.sought)
        (λ j low high. r.removed j low (omega (arith, length-append ts (a ∷ []), g.so_many, high))) few last_is))
      where
        r : Removal setup t key file size f (ts ++ a ∷ []) (calls ++ (cut_calls file (chunk_file setup t (c + 1)) (from_of setup.chunk c) pieces ending ++ Remove (chunk_file setup t (c + 1)) (Ok tt) ∷ [])) (c + 1)
        r = removal_of setup t key file size f ts calls (cut pieces ending) c a g last m.small (all_copied pieces ending k) (asks_as setup t (c + 1) (with_chunk setup.chunk c key) a.request a.verdict h)
            (no_question name (with_chunk setup.chunk c key) a.request a.verdict h) (wrote_all pieces ending k l)

        settled : is_settled_at a.verdict ≡ true
        settled = rw v refl

        few : f + count_by is_done (ts ++ a ∷ []) < count_of size setup.chunk
        few = let n : count_by is_done (ts ++ a ∷ []) ≡ length ts = count_front is_done ts (a ∷ []) g.all_stored (rw v refl) in omega (arith, n, g.so_many)

        last_is : last_failed (qs ++ (ts ++ a ∷ [])) ≡ Some (A.Failed at)
        last_is =
            let P : List Asking → Type 0 = λ q. last_failed q ≡ Some (A.Failed at) in
            subst P (append_assoc qs ts (a ∷ [])) (last_failed_is (qs ++ ts) a (A.Failed at) (sought_unfailed key setup.chunk (count_of size setup.chunk) f qs ts m.sought g.all_stored) (rw v refl))

    removed : (pieces : List (List ℕ)) (ending : List Call) (a : Asking) (v : Verdict) → Cut file (chunk_file setup t (c + 1)) (from_of setup.chunk c) (to_of size setup.chunk c) pieces ending
        → length (concat pieces) ≡ to_of size setup.chunk c - from_of setup.chunk c → AsksFor (from_file (chunk_file setup t (c + 1))) 1 (with_chunk setup.chunk c key) a
        → a.verdict ≡ v → is_settled_at v ≡ true → (undone_answer v ≡ None → ⊥)
        → RunOf setup t (store_task text file) key layouts (qs ++ (ts ++ a ∷ []))
        (with_size file size (calls ++ (cut_calls file (chunk_file setup t (c + 1)) (from_of setup.chunk c) pieces ending ++ Remove (chunk_file setup t (c + 1)) (Ok tt) ∷ []))) [] (answered (so_far (Ok (undone_answer v))))
    removed pieces ending a (Done at) k l h e s ne = absurd (ne refl)
    removed pieces ending a (Failed at) k l h e s ne = failed pieces ending a at k l h e
    removed pieces ending a (Absent at) k l h e s ne = apart s
    removed pieces ending a (Unknown at) k l h e s ne = apart s
    removed pieces ending a (Unsupported at) k l h e s ne = apart s
    removed pieces ending a (Ended why) k l h e s ne = apart s
    removed pieces ending a Unsent k l h e s ne = apart s

    by_how : (how : Chunk) → ChunkIs file (chunk_file setup t (c + 1)) (from_of setup.chunk c) (to_of size setup.chunk c) (with_chunk setup.chunk c key) how → (chunk_result how ≡ Ok None → ⊥)
        → RunOf setup t (store_task text file) key layouts (qs ++ (ts ++ chunk_asked how)) (with_size file size (calls ++ chunk_calls file (chunk_file setup t (c + 1)) (from_of setup.chunk c) how)) []
        (answered (so_far (chunk_result how)))
    by_how (NotMade E.NoMemory) so ne = none_more
    by_how (NotMade E.Failed) so ne = stopped [] (Create name (Err E.Failed)) A.FileFault (cutting_create file name from to (Err E.Failed)) refl refl refl
    by_how (NotMade E.Missing) so ne = stopped [] (Create name (Err E.Missing)) A.NoFile (cutting_create file name from to (Err E.Missing)) refl refl refl
    by_how (NotCopied pieces ending E.NoMemory) so ne =
        let r : (o : Option (List ℕ)) × (ending ≡ last_read file (at_of pieces) o) = early_read file (at_of pieces) ending so.0 in
        memory (cut pieces ending) (copied pieces r.0 ending r.1 so.1)
    by_how (NotCopied pieces ending E.Failed) so ne = no_copy E.Failed A.FileFault pieces ending refl so.0 so.1
    by_how (NotCopied pieces ending E.Missing) so ne = no_copy E.Missing A.NoFile pieces ending refl so.0 so.1
    by_how (CutShort pieces ending) so ne = unasked (cut pieces ending) (A.Size (length (concat pieces))) (cut_short pieces ending so.0 so.1)
    by_how (Unasked pieces ending) so ne =
        let r : (o : Option (List ℕ)) × (ending ≡ last_read file (at_of pieces) o) = whole_read file (at_of pieces) ((to - from) - length (concat pieces)) ending so.0.ends in
        memory (cut pieces ending) (copied pieces r.0 ending r.1 so.0.within)
    by_how (Undone pieces ending a) so ne = undone pieces ending a so.0 so.1 so.2 so.3
    by_how (Settled pieces ending a (Ok done)) so ne = removed pieces ending a a.verdict so.0 so.1 so.2 refl so.3 (λ e. ne (ap Ok e))
    by_how (Settled pieces ending a (Err e)) so ne = unremoved pieces ending a e so.0 so.1 so.2 so.3
