-- A task that went well from outside ends with its success, or early for lack of memory.
use Rattle.std.proofs.Common.{◌≡◌, ◌∙◌, ◌⊎◌, inl, inr, ℕ, zero, suc, ◌+◌, ◌<◌, ◌≤◌, ◌==◌, List, [], ◌∷◌, ◌++◌, length, refl, sym, ap, subst, arith}
use Rattle.std.specs.Prelude.{Bool, true, false, ◌&&◌, ◌||◌, not, if◌then◌else◌, nat_lt, nat_le, Option, Some, None, IfSome, MatchOption, is_none, is_some, map, filter, take, drop, unwrap_or, count_by, bytes_eq, Result, Ok, Err}
use Rattle.std.specs.Bool.{MatchBool}
use Rattle.std.specs.List.{list_all, list_any, filter_map, cons_option, last_or, zip, range_with_len}
use Rattle.std.proofs.lemmas.Bool.{not-true, and_parts, or_cases, eqb-true, ltb-true, leb-true, le-leb}
use Rattle.ann_key.specs.Keys.{Parts}
use Rattle.ann_digest.specs.Fits.{HasSize, FitsKey}
use Rattle.ann_outside.specs.declared.file_desk.DeskError.{DeskError}
use Rattle.ann_outside.specs.declared.file_desk.DeskError.TheVariants as E
use Rattle.ann_outside.specs.declared.file_desk.Call.{Call}
use Rattle.ann_outside.specs.declared.file_desk.Call.TheVariants.{Size, ReadAt, Create, Append, Cut, Rename, Remove}
use Rattle.task_text.specs.Layouts.Layouts.{Part, layout, count_of, chunk_part, to_of}
use Rattle.journal_model.specs.declared.answer.Answer.{Answer}
use Rattle.journal_model.specs.declared.answer.Answer.TheVariants as A
use Rattle.journal_model.specs.declared.verdict.Verdict.{Verdict}
use Rattle.journal_model.specs.declared.verdict.Verdict.TheVariants as V
use Rattle.task_text.specs.declared.task.Task.{Task}
use Rattle.task_text.specs.declared.task.Work.{Work}
use Rattle.task_text.specs.declared.task.Work.TheVariants as W
use Rattle.task_model.specs.Askers.{Asking, Noting}
use Rattle.task_model.specs.declared.setup.Setup.{Setup}
use Rattle.task_model.specs.declared.turn.TaskTurn.{TaskTurn}
use Rattle.task_model.specs.Stops.{verdict_stop, asking_stop, result_stop, call_stop, stops_of, AnsweredBy, is_done, is_done_at, is_question, is_store, failed_at, last_failed}
use Rattle.task_model.specs.Names.{part_of}
use Rattle.task_model.specs.Layouts.{chunk_sizes, sizes_tried, layouts_tried, keys_of_layout, parts_of_layout}
use Rattle.task_model.specs.Reads.{length_found, lengths_found, reads_of, reads_between, is_at_end}
use Rattle.task_model.specs.Requests.{rounds}
use Rattle.task_model.specs.Checks.{CheckAnswers, is_there, not_there}
use Rattle.task_model.specs.Drops.{DropAnswers, keys_dropped}
use Rattle.task_model.specs.Stores.{is_size, fits_length, stored, missing_parts, transfers, found, parts_left, IsShort, IsStoredShort, PlainStoreAnswers, ChunkStoreAnswers}
use Rattle.task_model.specs.Gets.{failures, asked_last, parts_last, lengths_at_begin, fit_in, IsSaid, IsChecked, DecidesBy, Decides, GetAnswers, checked}
use Rattle.task_model.specs.Ran.{is_of_content}
use Rattle.task_model.specs.Runs.{RunOf, is_chunked, WorkAnswers}
use Rattle.task_model.specs.Exports.{DoneOrFailed}
use Rattle.task_model.proofs.Lists.{none_stop}
use Rattle.run_starts.specs.TaskLaws.WentWell.{is_told, is_asked_well, error_of, is_borne, is_called_well, is_read_within, IsFileWhole, IsSentWell, IsFoundWell, WentWell, success_of, IsSuccess, WellIsSuccess, WellUnlessRefused}
use Rattle.ann_key.proofs.Lists.{weaken}
use Rattle.ann_key.proofs.Booleans.{false_is_true as apart}

-- ---- tests of all

pub dropped : {X : Type 0} (p : X → Bool) (k : ℕ) (xs : List X) → list_all p xs ≡ true → list_all p (drop k xs) ≡ true
dropped p zero xs h = h
dropped p (suc k) [] h = refl
dropped p (suc k) (x ∷ xs) h = dropped p k xs (and_parts (p x) (list_all p xs) h).1

-- ---- nothing stops it

stop_of : (asks : Bool) (v : Verdict) → (is_done_at v || (asks && is_told v)) ≡ true → is_none (verdict_stop asks v) ≡ true
stop_of asks (V.Done at) h = refl
stop_of true (V.Failed at) h = apart h
stop_of false (V.Failed at) h = apart h
stop_of asks (V.Absent at) h = refl
stop_of asks (V.Unknown at) h = refl
stop_of true (V.Unsupported at) h = refl
stop_of false (V.Unsupported at) h = apart h
stop_of true (V.Ended why) h = apart h
stop_of false (V.Ended why) h = apart h
stop_of true V.Unsent h = apart h
stop_of false V.Unsent h = apart h

failure_of : (asks : Bool) (v : Verdict) → (is_done_at v || (asks && is_told v)) ≡ true → is_none (failed_at v) ≡ true
failure_of asks (V.Done at) h = refl
failure_of true (V.Failed at) h = apart h
failure_of false (V.Failed at) h = apart h
failure_of asks (V.Absent at) h = refl
failure_of asks (V.Unknown at) h = refl
failure_of asks (V.Unsupported at) h = refl
failure_of asks (V.Ended why) h = refl
failure_of asks V.Unsent h = refl

no_stops : (work : Work) (asked : List Asking) → list_all (is_asked_well work) asked ≡ true → filter_map (asking_stop work) asked ≡ []
no_stops work asked h =
    none_stop (asking_stop work) asked (weaken (is_asked_well work) (λ (a : Asking). is_none (asking_stop work a)) asked (λ a k. stop_of (is_store work && is_question a) a.verdict k) h)

none_failed : (work : Work) (asked : List Asking) → list_all (is_asked_well work) asked ≡ true → last_failed asked ≡ None
none_failed work asked h =
    ap (last_or None)
    (none_stop (λ (a : Asking). failed_at a.verdict) asked (weaken (is_asked_well work) (λ (a : Asking). is_none (failed_at a.verdict)) asked (λ a k. failure_of (is_store work && is_question a) a.verdict k) h))

result_of : {T : Type 0} (missing : Bool) (r : Result T DeskError) → is_borne missing (error_of r) ≡ true → is_none (result_stop missing r) ≡ true
result_of missing (Ok x) h = refl
result_of missing (Err E.Failed) h = apart h
result_of true (Err E.Missing) h = refl
result_of false (Err E.Missing) h = apart h
result_of missing (Err E.NoMemory) h = refl

call_of : (part : List ℕ) (call : Call) → is_called_well part call ≡ true → is_none (call_stop part call) ≡ true
call_of part (Size name answer) h = result_of (bytes_eq name part) answer h
call_of part (ReadAt name from answer) h = result_of false answer h
call_of part (Create name answer) h = result_of false answer h
call_of part (Append name piece answer) h = result_of false answer h
call_of part (Cut name size answer) h = result_of false answer h
call_of part (Rename from to answer) h = result_of false answer h
call_of part (Remove name answer) h = result_of (bytes_eq name part) answer h

no_call_stops : (part : List ℕ) (calls : List Call) → list_all (is_called_well part) calls ≡ true → filter_map (call_stop part) calls ≡ []
no_call_stops part calls h = none_stop (call_stop part) calls (weaken (is_called_well part) (λ (call : Call). is_none (call_stop part call)) calls (call_of part) h)

both_none : {X : Type 0} (xs ys : List X) → xs ≡ [] → ys ≡ [] → xs ++ ys ≡ []
both_none xs ys e f = rw (e, f) refl

-- where nothing stopped it, it is finished or wanted memory
ended : (answer : Answer) (Finished : Type 0) → AnsweredBy [] answer Finished → Finished ⊎ (answer ≡ A.Memory)
ended A.Memory Finished r = inr refl
ended A.Stored Finished r = inl r
ended A.Got Finished r = inl r
ended A.Present Finished r = inl r
ended A.Dropped Finished r = inl r
ended A.Renamed Finished r = inl r
ended A.Absent Finished r = inl r
ended A.Unsupported Finished r = inl r
ended A.Unsent Finished r = inl r
ended A.StartFault Finished r = inl r
ended A.NoChild Finished r = inl r
ended A.FileFault Finished r = inl r
ended A.NoFile Finished r = inl r
ended (A.Failed at) Finished r = inl r
ended (A.Unknown at) Finished r = inl r
ended (A.NotPrepared at) Finished r = inl r
ended (A.Ended why) Finished r = inl r
ended (A.Size n) Finished r = inl r
ended (A.Hash digest) Finished r = inl r

-- ---- a store

not_failed : {B : Type 0} (work : Work) (asked : List Asking) (answer : Answer) → list_all (is_asked_well work) asked ≡ true → last_failed asked ≡ Some answer → B
not_failed work asked answer h e = absurd (let k : None ≡ Some answer = sym (none_failed work asked h) ∙ e in cc)

-- the length that was found is the key's
length_fits : {B : Type 0} (key : Parts) (lengths : List ℕ) (answer : Answer) → list_all (is_size key.size) lengths ≡ true
    → fits_length key lengths ≡ false → map A.Size lengths ≡ answer ∷ [] → B
length_fits key [] answer h f e = absurd cc
length_fits key (n ∷ more) answer h f e = apart (sym f ∙ (and_parts (is_size key.size n) (list_all (is_size key.size) more) h).0)

plain_stored : (work : Work) (key : Parts) (file : List ℕ) (asked : List Asking) (calls : List Call) (answer : Answer) → list_all (is_asked_well work) asked ≡ true
    → IsFileWhole key file calls → PlainStoreAnswers key file asked calls answer → answer ≡ A.Stored
plain_stored work key file asked calls answer h whole r = by_tests (fits_length key (lengths_found file calls)) (nat_lt 0 (count_by is_done asked)) refl r.answered
  where
    by_tests : (b c : Bool) → fits_length key (lengths_found file calls) ≡ b → MatchBool b (MatchBool c (answer ≡ A.Stored) (last_failed asked ≡ Some answer)) (map A.Size (lengths_found file calls) ≡ answer ∷ []) → answer ≡ A.Stored
    by_tests true true f e = e
    by_tests true false f e = not_failed work asked answer h e
    by_tests false c f e = length_fits key (lengths_found file calls) answer whole.lengths f e

-- no read of a part of the file came to its end
reads_go_on : (size from to : ℕ) (reads : List (ℕ × List ℕ)) → to ≤ size → list_all (is_read_within (Some size)) reads ≡ true
    → list_all (λ (r : ℕ × List ℕ). nat_lt 0 (length r.1)) (filter (λ (r : ℕ × List ℕ). nat_le from r.0 && nat_lt r.0 to) reads) ≡ true
reads_go_on size from to [] h k = refl
reads_go_on size from to (r ∷ more) h k =
    by_test (nat_le from r.0 && nat_lt r.0 to) refl (reads_go_on size from to more h (and_parts (is_read_within (Some size) r) (list_all (is_read_within (Some size)) more) k).1)
  where
    goes_on : (nat_le from r.0 && nat_lt r.0 to) ≡ true → (nat_lt 0 (length r.1) ≡ true) ⊎ (nat_le size r.0 ≡ true) → nat_lt 0 (length r.1) ≡ true
    goes_on e (inl some) = some
    goes_on e (inr behind) =
        let below : r.0 < to = ltb-true r.0 to (and_parts (nat_le from r.0) (nat_lt r.0 to) e).1 in
        let above : size ≤ r.0 = leb-true size r.0 behind in
        absurd (omega arith)

    by_test : (b : Bool) → (nat_le from r.0 && nat_lt r.0 to) ≡ b
        → list_all (λ (r : ℕ × List ℕ). nat_lt 0 (length r.1)) (filter (λ (r : ℕ × List ℕ). nat_le from r.0 && nat_lt r.0 to) more) ≡ true
        → list_all (λ (r : ℕ × List ℕ). nat_lt 0 (length r.1)) (if b then r ∷ filter (λ (r : ℕ × List ℕ). nat_le from r.0 && nat_lt r.0 to) more else filter (λ (r : ℕ × List ℕ). nat_le from r.0 && nat_lt r.0 to) more) ≡ true
    by_test true e rest =
        let one : nat_lt 0 (length r.1) ≡ true = goes_on e (or_cases (nat_lt 0 (length r.1)) (nat_le size r.0) (and_parts (is_read_within (Some size) r) (list_all (is_read_within (Some size)) more) k).0) in
        rw (one, rest) refl
    by_test false e rest = rest

no_end : (reads : List (ℕ × List ℕ)) → list_all (λ (r : ℕ × List ℕ). nat_lt 0 (length r.1)) reads ≡ true → is_at_end reads ≡ true → ⊥
no_end [] h e = apart e
no_end (r ∷ []) h e = some r.1 (and_parts (nat_lt 0 (length r.1)) true h).0 e
  where
    some : (bytes : List ℕ) → nat_lt 0 (length bytes) ≡ true → (length bytes == 0) ≡ true → ⊥
    some [] k l = apart k
    some (b ∷ bytes) k l = let none : length (b ∷ bytes) ≡ 0 = eqb-true (length (b ∷ bytes)) 0 l in omega arith
no_end (r ∷ next ∷ more) h e = no_end (next ∷ more) (and_parts (nat_lt 0 (length r.1)) (list_all (λ (r : ℕ × List ℕ). nat_lt 0 (length r.1)) (next ∷ more)) h).1 e

-- the parts of a layout end within the content
ends_within : (key : Parts) (size chunk from count : ℕ) → list_all (λ (p : Part). nat_le p.to size) (map (chunk_part key size chunk) (range_with_len from count)) ≡ true
ends_within key size chunk from zero = refl
ends_within key size chunk from (suc count) =
    let one : nat_le (to_of size chunk from) size ≡ true = le-leb _ _ (omega arith) in
    let rest : list_all (λ (p : Part). nat_le p.to size) (map (chunk_part key size chunk) (range_with_len (from + 1) count)) ≡ true = ends_within key size chunk (from + 1) count in
    rw (one, rest) refl

pub layout_within : (key : Parts) (size chunk : ℕ) → list_all (λ (p : Part). nat_le p.to size) (layout key size chunk) ≡ true
layout_within key size chunk = by_test (chunk == 0)
  where
    by_test : (b : Bool) → list_all (λ (p : Part). nat_le p.to size) (if b then record { key = key; from = 0; to = size } ∷ [] else map (chunk_part key size chunk) (range_with_len 1 (count_of size chunk))) ≡ true
    by_test true = let one : nat_le size size ≡ true = le-leb _ _ (omega arith) in rw one refl
    by_test false = ends_within key size chunk 1 (count_of size chunk)

not_short : {B : Type 0} (setup : Setup) (t : TaskTurn) (size : ℕ) (file : List ℕ) (asked : List Asking) (calls : List Call) (parts : List Part) (answer : Answer)
    → list_all (λ (p : Part). nat_le p.to size) parts ≡ true → list_all (is_read_within (Some size)) (reads_of file calls) ≡ true
    → IsShort setup t file asked calls parts answer → B
not_short setup t size file asked calls [] answer h k s = absurd s
not_short setup t size file asked calls (part ∷ more) answer h k s =
    let within : part.to ≤ size = leb-true part.to size (and_parts (nat_le part.to size) (list_all (λ (p : Part). nat_le p.to size) more) h).0 in
    let at_end : is_at_end (reads_between file part.from part.to calls) ≡ true = (and_parts (is_at_end (reads_between file part.from part.to calls)) _ (and_parts (is_at_end (reads_between file part.from part.to calls) && _) _ s.1).0).0 in
    absurd (no_end (reads_between file part.from part.to calls) (reads_go_on size part.from part.to (reads_of file calls) within k) at_end)

first_lengths : (key : Parts) (file : List ℕ) (calls : List Call) → list_all (is_size key.size) (lengths_found file calls) ≡ true → list_all (is_size key.size) (lengths_found file (take 1 calls)) ≡ true
first_lengths key file [] h = refl
first_lengths key file (call ∷ more) h = by_case (length_found file call) h
  where
    by_case : (o : Option ℕ) → list_all (is_size key.size) (cons_option o (filter_map (length_found file) more)) ≡ true → list_all (is_size key.size) (cons_option o []) ≡ true
    by_case None k = refl
    by_case (Some n) k = let one : is_size key.size n ≡ true = (and_parts (is_size key.size n) (list_all (is_size key.size) (filter_map (length_found file) more)) k).0 in rw one refl

chunks_stored : (setup : Setup) (t : TaskTurn) (size : ℕ) (key : Parts) (file : List ℕ) (asked : List Asking) (calls : List Call) (noted : List Noting) (answer : Answer)
    → key.size ≡ Some size → list_all (is_asked_well W.Store) asked ≡ true → IsFileWhole key file calls
    → ChunkStoreAnswers setup t key file asked calls noted answer → answer ≡ A.Stored
chunks_stored setup t size key file asked calls noted answer sized h whole r =
    by_tests (fits_length key (lengths_found file (take 1 calls))) (stored asked == length (parts_of_layout key setup.chunk)) refl r.answered
  where
    reads : list_all (is_read_within (Some size)) (reads_of file calls) ≡ true
    reads = let P : Option ℕ → Type 0 = λ o. list_all (is_read_within o) (reads_of file calls) ≡ true in subst P sized whole.reads

    within : list_all (λ (p : Part). nat_le p.to size) (parts_of_layout key setup.chunk) ≡ true
    within = let P : Option ℕ → Type 0 = λ o. list_all (λ (p : Part). nat_le p.to size) (layout key (unwrap_or o 0) setup.chunk) ≡ true in subst P (sym sized) (layout_within key size setup.chunk)

    left : list_all (λ (p : Part). nat_le p.to size) (parts_left key setup.chunk asked) ≡ true
    left = dropped (λ (p : Part). nat_le p.to size) (length (transfers asked)) (missing_parts key setup.chunk asked) (dropped (λ (p : Part). nat_le p.to size) (found asked) (parts_of_layout key setup.chunk) within)

    short : IsStoredShort setup t file asked calls (parts_left key setup.chunk asked) answer → answer ≡ A.Stored
    short s =
        let P : Option Answer → Type 0 = λ o. MatchOption o (IsShort setup t file asked calls (parts_left key setup.chunk asked) answer) (λ failed. answer ≡ failed) in
        not_short setup t size file asked calls (parts_left key setup.chunk asked) answer left reads (subst P (none_failed W.Store asked h) s)

    by_tests : (b c : Bool) → fits_length key (lengths_found file (take 1 calls)) ≡ b
        → MatchBool b (MatchBool c ((answer ≡ A.Stored) × (length noted ≡ 1)) (IsStoredShort setup t file asked calls (parts_left key setup.chunk asked) answer)) (map A.Size (lengths_found file (take 1 calls)) ≡ answer ∷ [])
        → answer ≡ A.Stored
    by_tests true true f e = e.0
    by_tests true false f e = short e
    by_tests false c f e = length_fits key (lengths_found file (take 1 calls)) answer (first_lengths key file calls whole.lengths) f e

store_well : (setup : Setup) (t : TaskTurn) (task : Task) (key : Parts) (asked : List Asking) (calls : List Call) (noted : List Noting) (answer : Answer)
    → list_all (is_asked_well W.Store) asked ≡ true → IsFileWhole key task.file calls
    → MatchBool (is_chunked setup key) (ChunkStoreAnswers setup t key task.file asked calls noted answer) (PlainStoreAnswers key task.file asked calls answer) → answer ≡ A.Stored
store_well setup t task key asked calls noted answer h whole r = by_size key.size (not (setup.chunk == 0)) refl r
  where
    by_size : (o : Option ℕ) (c : Bool) → key.size ≡ o → MatchBool (c && is_some o) (ChunkStoreAnswers setup t key task.file asked calls noted answer) (PlainStoreAnswers key task.file asked calls answer) → answer ≡ A.Stored
    by_size (Some size) true e s = chunks_stored setup t size key task.file asked calls noted answer e h whole s
    by_size (Some size) false e s = plain_stored W.Store key task.file asked calls answer h whole s
    by_size None true e s = plain_stored W.Store key task.file asked calls answer h whole s
    by_size None false e s = plain_stored W.Store key task.file asked calls answer h whole s

-- ---- a check and a drop

each_done : (work : Work) (a : Asking) → is_store work ≡ false → is_asked_well work a ≡ true → is_done a ≡ true
each_done work a e h = by_test (is_done a) (or_cases (is_done a) (is_store work && is_question a && is_told a.verdict) h)
  where
    by_test : (b : Bool) → (b ≡ true) ⊎ ((is_store work && is_question a && is_told a.verdict) ≡ true) → b ≡ true
    by_test b (inl k) = k
    by_test b (inr k) = apart (sym e ∙ (and_parts (is_store work) (is_question a) (and_parts (is_store work && is_question a) (is_told a.verdict) k).0).0)

none_undone : (asked : List Asking) → list_all is_done asked ≡ true → count_by (λ (a : Asking). not (is_done a)) asked ≡ 0
none_undone [] h = refl
none_undone (a ∷ more) h =
    let parts = and_parts (is_done a) (list_all is_done more) h in
    let rest : count_by (λ (a : Asking). not (is_done a)) more ≡ 0 = none_undone more parts.1 in
    rw (parts.0, rest) refl

some_layout : (key : Parts) (layouts : List (ℕ × ℕ)) → length (layouts_tried key layouts) ≡ 0 → ⊥
some_layout key layouts e = behind (keys_of_layout key) (chunk_sizes key.size layouts) e
  where
    behind : (f : ℕ → List Parts) (sizes : List ℕ) → length (map f (sizes ++ 0 ∷ [])) ≡ 0 → ⊥
    behind f [] e = omega arith
    behind f (s ∷ sizes) e = omega arith

-- a check by some layout, where all that was asked is there
checked_well : (work : Work) (tried : List (List Parts)) (asked : List Asking) (answer : Answer) → is_store work ≡ false → (length tried ≡ 0 → ⊥) → list_all (is_asked_well work) asked ≡ true
    → CheckAnswers tried asked answer → answer ≡ A.Present
checked_well work tried asked answer other some h r = by_test (list_any is_there (zip tried (rounds asked))) r.found
  where
    none : count_by (λ (a : Asking). not (is_done a)) asked ≡ 0
    none = none_undone asked (weaken (is_asked_well work) is_done asked (λ a. each_done work a other) h)

    by_test : (b : Bool) → MatchBool b (answer ≡ A.Present) ((count_by (λ a. not (is_done a)) asked ≡ length tried) × (answer ≡ not_there asked)) → answer ≡ A.Present
    by_test true e = e
    by_test false s = absurd (some (sym s.0 ∙ none))

drop_well : (key : Parts) (sizes : List ℕ) (asked : List Asking) (answer : Answer) → list_all (is_asked_well W.Drop) asked ≡ true → DropAnswers key sizes asked answer → answer ≡ A.Dropped
drop_well key sizes asked answer h r = by_test (count_by is_done asked == length (keys_dropped key sizes)) r.dropped
  where
    by_test : (b : Bool) → MatchBool b (answer ≡ A.Dropped) (last_failed asked ≡ Some answer) → answer ≡ A.Dropped
    by_test true e = e
    by_test false e = not_failed W.Drop asked answer h e

-- the one request of a task of an export was done
export_done : (work : Work) (done : Answer) (asked : List Asking) (answer : Answer) → list_all (is_asked_well work) asked ≡ true → DoneOrFailed done asked answer → answer ≡ done
export_done work done asked answer h r = by_test (nat_lt 0 (count_by is_done asked)) r
  where
    by_test : (b : Bool) → MatchBool b (answer ≡ done) (last_failed asked ≡ Some answer) → answer ≡ done
    by_test true e = e
    by_test false e = not_failed work asked answer h e

-- ---- a get

said_fits : (key : Parts) (bytes : List ℕ) (answer : Answer) → IsSaid key bytes (fit_in answer) → FitsKey key bytes → answer ≡ A.Got
said_fits key bytes A.Got s f = refl
said_fits key bytes (A.Size n) s f = absurd (s.1 (let P : ℕ → Type 0 = λ m. HasSize key.size m in subst P (sym s.0) f.size))
said_fits key bytes (A.Hash digest) s f = absurd (s.1 f)
said_fits key bytes A.Stored s f = absurd s
said_fits key bytes A.Present s f = absurd s
said_fits key bytes A.Dropped s f = absurd s
said_fits key bytes A.Renamed s f = absurd s
said_fits key bytes A.Absent s f = absurd s
said_fits key bytes A.Unsupported s f = absurd s
said_fits key bytes A.Unsent s f = absurd s
said_fits key bytes A.StartFault s f = absurd s
said_fits key bytes A.NoChild s f = absurd s
said_fits key bytes A.FileFault s f = absurd s
said_fits key bytes A.NoFile s f = absurd s
said_fits key bytes A.Memory s f = absurd s
said_fits key bytes (A.Failed at) s f = absurd s
said_fits key bytes (A.Unknown at) s f = absurd s
said_fits key bytes (A.NotPrepared at) s f = absurd s
said_fits key bytes (A.Ended why) s f = absurd s

get_well : (work : Work) (setup : Setup) (t : TaskTurn) (key : Parts) (sizes : List ℕ) (file : List ℕ) (asked : List Asking) (calls : List Call) (answer : Answer)
    → list_all (is_asked_well work) asked ≡ true → IsSentWell setup t key sizes file asked calls → GetAnswers setup t key sizes file asked calls answer → answer ≡ A.Got
get_well work setup t key sizes file asked calls answer h sent r = by_test (failures asked == length sizes) r.answered
  where
    decided : Decides setup t key sizes file asked calls answer → answer ≡ A.Got
    decided d =
        let P : List ℕ → Type 0 = λ ns. DecidesBy ns
        (count_by is_done (asked_last asked) ≡ length (parts_last key sizes (lengths_at_begin file calls) asked)) (IsChecked setup t key sizes file asked calls answer) answer in
        let both : (count_by is_done (asked_last asked) ≡ length (parts_last key sizes (lengths_at_begin file calls) asked)) × IsChecked setup t key sizes file asked calls answer = subst P sent.lengths d.by_length in
        said_fits key (checked setup t file sizes asked calls) answer both.1.said (sent.fits (record { done = both.0; held = both.1.held_whole; fetched = both.1.fetched_whole }))

    by_test : (b : Bool) → MatchBool b (last_failed asked ≡ Some answer) (Decides setup t key sizes file asked calls answer) → answer ≡ A.Got
    by_test true e = not_failed work asked answer h e
    by_test false d = decided d

-- ---- any task

work_well : (setup : Setup) (t : TaskTurn) (task : Task) (key : Parts) (layouts : List (ℕ × ℕ)) (work : Work) (asked : List Asking) (calls : List Call) (noted : List Noting) (answer : Answer)
    → list_all (is_asked_well work) asked ≡ true → IsFoundWell setup t task key layouts work asked calls → WorkAnswers setup t task key layouts work asked calls noted answer
    → answer ≡ success_of work
work_well setup t task key layouts W.Store asked calls noted answer h f r = store_well setup t task key asked calls noted answer h f r
work_well setup t task key layouts W.Get asked calls noted answer h f r = get_well W.Get setup t key (sizes_tried key layouts) task.file asked calls answer h f r
work_well setup t task key layouts W.Check asked calls noted answer h f r = checked_well W.Check (layouts_tried key layouts) asked answer refl (some_layout key layouts) h r
work_well setup t task key layouts W.Drop asked calls noted answer h f r = drop_well key (sizes_tried key layouts) asked answer h r
work_well setup t task key layouts W.XStore asked calls noted answer h f r = plain_stored W.XStore key task.file asked calls answer h f r
work_well setup t task key layouts W.XGet asked calls noted answer h f r = get_well W.XGet setup t key (0 ∷ []) task.file asked calls answer h f r
work_well setup t task key layouts W.XCheck asked calls noted answer h f r = checked_well W.XCheck ((key ∷ []) ∷ []) asked answer refl (λ e. omega (arith, e)) h r
work_well setup t task key layouts W.XDrop asked calls noted answer h f r = export_done W.XDrop A.Dropped asked answer h r
work_well setup t task key layouts W.XRename asked calls noted answer h f r = export_done W.XRename A.Renamed asked answer h r

pub run_well : (setup : Setup) (t : TaskTurn) (task : Task) (key : Parts) (layouts : List (ℕ × ℕ)) (asked : List Asking) (calls : List Call) (noted : List Noting) (answer : Answer)
    → WentWell setup t task key layouts asked calls → RunOf setup t task key layouts asked calls noted answer → IsSuccess task.work answer
run_well setup t task key layouts asked calls noted answer w r =
    by_end (ended answer (WorkAnswers setup t task key layouts task.work asked calls noted answer) (subst P none r.answered))
  where
    P : List Answer → Type 0
    P stops = AnsweredBy stops answer (WorkAnswers setup t task key layouts task.work asked calls noted answer)

    none : stops_of task.work (part_of task.file) asked calls ≡ []
    none = both_none (filter_map (asking_stop task.work) asked) (filter_map (call_stop (part_of task.file)) calls) (no_stops task.work asked w.asked_well) (no_call_stops (part_of task.file) calls w.desk.called)

    by_end : WorkAnswers setup t task key layouts task.work asked calls noted answer ⊎ (answer ≡ A.Memory) → IsSuccess task.work answer
    by_end (inl f) = inl (work_well setup t task key layouts task.work asked calls noted answer w.asked_well w.desk.found f)
    by_end (inr e) = inr e

pub well_is_success : WellIsSuccess
well_is_success task t setup layouts asked calls noted answer key e w r =
    let P : Option Parts → Type 0 = λ o. IfSome o (λ k. RunOf setup t task k layouts asked calls noted answer) in
    run_well setup t task key layouts asked calls noted answer w (subst P e r)

-- ---- whatever the desk answered

abbrev passes : (Answer → Bool) → Option Answer → Bool
passes q None = true
passes q (Some answer) = q answer

all_stops : {X : Type 0} (q : Answer → Bool) (stop : X → Option Answer) → ((x : X) → passes q (stop x) ≡ true) → (xs : List X) → list_all q (filter_map stop xs) ≡ true
all_stops q stop h [] = refl
all_stops q stop h (x ∷ xs) = by_case (stop x) (h x) (all_stops q stop h xs)
  where
    by_case : (o : Option Answer) → passes q o ≡ true → list_all q (filter_map stop xs) ≡ true → list_all q (cons_option o (filter_map stop xs)) ≡ true
    by_case None g r = r
    by_case (Some answer) g r = rw (g, r) refl

abbrev is_refused : Answer → Bool
is_refused answer = not (is_of_content answer)

result_refused : {T : Type 0} (missing : Bool) (r : Result T DeskError) → passes is_refused (result_stop missing r) ≡ true
result_refused missing (Ok x) = refl
result_refused missing (Err E.Failed) = refl
result_refused true (Err E.Missing) = refl
result_refused false (Err E.Missing) = refl
result_refused missing (Err E.NoMemory) = refl

call_refused : (part : List ℕ) (call : Call) → passes is_refused (call_stop part call) ≡ true
call_refused part (Size name answer) = result_refused (bytes_eq name part) answer
call_refused part (ReadAt name from answer) = result_refused false answer
call_refused part (Create name answer) = result_refused false answer
call_refused part (Append name piece answer) = result_refused false answer
call_refused part (Cut name size answer) = result_refused false answer
call_refused part (Rename from to answer) = result_refused false answer
call_refused part (Remove name answer) = result_refused (bytes_eq name part) answer

run_unless_refused : (setup : Setup) (t : TaskTurn) (task : Task) (key : Parts) (layouts : List (ℕ × ℕ)) (asked : List Asking) (calls : List Call) (noted : List Noting) (answer : Answer)
    → list_all (is_asked_well task.work) asked ≡ true → IsFoundWell setup t task key layouts task.work asked calls → RunOf setup t task key layouts asked calls noted answer
    → IsSuccess task.work answer ⊎ (is_of_content answer ≡ false)
run_unless_refused setup t task key layouts asked calls noted answer h f r =
    by_stops (filter_map (call_stop (part_of task.file)) calls) (all_stops is_refused (call_stop (part_of task.file)) (call_refused (part_of task.file)) calls) (subst P (no_stops task.work asked h) r.answered)
  where
    P : List Answer → Type 0
    P stops = AnsweredBy (stops ++ filter_map (call_stop (part_of task.file)) calls) answer (WorkAnswers setup t task key layouts task.work asked calls noted answer)

    refused : (stop : Answer) → answer ≡ stop → not (is_of_content stop) ≡ true → is_of_content answer ≡ false
    refused stop e k = ap is_of_content e ∙ not-true (is_of_content stop) k

    by_end : WorkAnswers setup t task key layouts task.work asked calls noted answer ⊎ (answer ≡ A.Memory) → IsSuccess task.work answer
    by_end (inl g) = inl (work_well setup t task key layouts task.work asked calls noted answer h f g)
    by_end (inr e) = inr e

    by_stops : (stops : List Answer) → list_all is_refused stops ≡ true → AnsweredBy stops answer (WorkAnswers setup t task key layouts task.work asked calls noted answer)
        → IsSuccess task.work answer ⊎ (is_of_content answer ≡ false)
    by_stops [] k a = inl (by_end (ended answer (WorkAnswers setup t task key layouts task.work asked calls noted answer) a))
    by_stops (stop ∷ []) k a = inr (refused stop a (and_parts (is_refused stop) true k).0)
    by_stops (stop ∷ another ∷ more) k a = absurd a

pub well_unless_refused : WellUnlessRefused
well_unless_refused task t setup layouts asked calls noted answer key e h f r =
    let P : Option Parts → Type 0 = λ o. IfSome o (λ k. RunOf setup t task k layouts asked calls noted answer) in
    run_unless_refused setup t task key layouts asked calls noted answer h f (subst P e r)
