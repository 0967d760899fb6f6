-- Got is no stop, and no work but a get, in a layout or under a name, ends with it.
use Rattle.std.proofs.Common.{◌≡◌, ℕ, List, [], ◌∷◌, ◌++◌, refl, sym, ap, subst}
use Rattle.std.specs.Prelude.{Bool, true, false, ◌&&◌, not, Option, Some, None, IfSome, MatchOption, Result, Ok, Err, map, take, nat_lt, ◌==◌, count_by, length}
use Rattle.std.specs.Bool.{MatchBool}
use Rattle.std.specs.List.{list_all, list_any, filter_map, cons_option, last_or, zip}
use Rattle.ann_key.specs.Keys.{Parts}
use Rattle.ann_digest.specs.Fits.{FitsKey}
use Rattle.ann_outside.specs.declared.file_desk.DeskError.{DeskError}
use Rattle.ann_outside.specs.declared.file_desk.DeskError.TheVariants as E
use Rattle.ann_outside.specs.declared.file_desk.Call.{Call}
use Rattle.ann_outside.specs.declared.file_desk.Call.TheVariants.{Size, ReadAt, Create, Append, Cut, Rename, Remove}
use Rattle.task_text.specs.Layouts.Layouts.{Part}
use Rattle.journal_model.specs.declared.answer.Answer.{Answer}
use Rattle.journal_model.specs.declared.answer.Answer.TheVariants as A
use Rattle.journal_model.specs.declared.verdict.Verdict.{Verdict}
use Rattle.journal_model.specs.declared.verdict.Verdict.TheVariants as V
use Rattle.task_text.specs.declared.task.Task.{Task}
use Rattle.task_text.specs.declared.task.Work.{Work}
use Rattle.task_text.specs.declared.task.Work.TheVariants as W
use Rattle.task_model.specs.Askers.{Asking, Noting}
use Rattle.task_model.specs.declared.setup.Setup.{Setup}
use Rattle.task_model.specs.declared.turn.TaskTurn.{TaskTurn}
use Rattle.task_model.specs.Stops.{verdict_stop, asking_stop, result_stop, call_stop, stops_of, AnsweredBy, is_done, failed_at, last_failed}
use Rattle.task_model.specs.Names.{part_of}
use Rattle.task_model.specs.Layouts.{sizes_tried, layouts_tried, parts_of_layout}
use Rattle.task_model.specs.Checks.{CheckAnswers, is_there, unknown_at, first_or, not_there}
use Rattle.task_model.specs.Drops.{DropAnswers, keys_dropped}
use Rattle.task_model.specs.Stores.{PlainStoreAnswers, ChunkStoreAnswers, IsShort, IsStoredShort, fits_length, stored, parts_left}
use Rattle.task_model.specs.Reads.{lengths_found}
use Rattle.task_model.specs.Requests.{rounds}
use Rattle.task_model.specs.Gets.{checked, failures, is_got, IsChecked, DecidesBy, Decides, GetAnswers}
use Rattle.task_model.specs.Exports.{DoneOrFailed}
use Rattle.task_model.specs.Runs.{RunOf, is_chunked, WorkAnswers}
use Rattle.task_model.specs.RunLaws.{is_get, IsGot, GotNeedsFit}
use Rattle.ann_key.proofs.Booleans.{false_is_true as apart}

-- ---- no stop is Got

-- an answer, if it is one, is another
abbrev other : Option Answer → Bool
other None = true
other (Some answer) = not (is_got answer)

abbrev pub are_other : List Answer → Bool
are_other answers = list_all (λ a. not (is_got a)) answers

verdict_other : (asks : Bool) (v : Verdict) → other (verdict_stop asks v) ≡ true
verdict_other asks (V.Ended why) = refl
verdict_other asks V.Unsent = refl
verdict_other true (V.Unsupported at) = refl
verdict_other false (V.Unsupported at) = refl
verdict_other asks (V.Done at) = refl
verdict_other asks (V.Failed at) = refl
verdict_other asks (V.Absent at) = refl
verdict_other asks (V.Unknown at) = refl

result_other : {T : Type 0} (may_miss : Bool) (r : Result T DeskError) → other (result_stop may_miss r) ≡ true
result_other may_miss (Ok x) = refl
result_other may_miss (Err E.Failed) = refl
result_other true (Err E.Missing) = refl
result_other false (Err E.Missing) = refl
result_other may_miss (Err E.NoMemory) = refl

call_other : (part : List ℕ) (call : Call) → other (call_stop part call) ≡ true
call_other part (Size name answer) = result_other _ answer
call_other part (ReadAt name from answer) = result_other false answer
call_other part (Create name answer) = result_other false answer
call_other part (Append name piece answer) = result_other false answer
call_other part (Cut name size answer) = result_other false answer
call_other part (Rename from to answer) = result_other false answer
call_other part (Remove name answer) = result_other _ answer

front_other : (o : Option Answer) (answers : List Answer) → other o ≡ true → are_other answers ≡ true → are_other (cons_option o answers) ≡ true
front_other None answers h k = k
front_other (Some answer) answers h k = rw (h, k) refl

all_other : {X : Type 0} (stop : X → Option Answer) → ((x : X) → other (stop x) ≡ true) → (xs : List X) → are_other (filter_map stop xs) ≡ true
all_other stop h [] = refl
all_other stop h (x ∷ xs) = front_other (stop x) (filter_map stop xs) (h x) (all_other stop h xs)

both_test : (t a b : Bool) → (t && a) ≡ true → (a ≡ true → b ≡ true) → (t && b) ≡ true
both_test true a b e k = k e
both_test false a b e k = apart e

both_other : (a b : List Answer) → are_other a ≡ true → are_other b ≡ true → are_other (a ++ b) ≡ true
both_other [] b h k = k
both_other (x ∷ a) b h k = both_test (not (is_got x)) (are_other a) (are_other (a ++ b)) h (λ e. both_other a b e k)

pub stops_other : (work : Work) (part : List ℕ) (asked : List Asking) (calls : List Call) → are_other (stops_of work part asked calls) ≡ true
stops_other work part asked calls =
    both_other (filter_map (asking_stop work) asked) (filter_map (call_stop part) calls)
    (all_other (asking_stop work) (λ a. verdict_other _ a.verdict) asked)
    (all_other (call_stop part) (call_other part) calls)

-- Got isn't another answer than Got
not_other : (answer : Answer) → A.Got ≡ answer → not (is_got answer) ≡ true → ⊥
not_other answer e h = let P : Answer → Type 0 = λ a. not (is_got a) ≡ true in apart (subst P (sym e) h)

first_other : (answer : Answer) (b : Bool) → (not (is_got answer) && b) ≡ true → not (is_got answer) ≡ true
first_other answer b h = by_test (not (is_got answer)) h
  where
    by_test : (t : Bool) → (t && b) ≡ true → t ≡ true
    by_test true e = refl
    by_test false e = apart e

pub finished : (stops : List Answer) (Finished : Type 0) → are_other stops ≡ true → AnsweredBy stops A.Got Finished → Finished
finished [] Finished h r = r
finished (stop ∷ []) Finished h r = absurd (not_other stop r (first_other stop true h))
finished (stop ∷ another ∷ more) Finished h r = absurd r

-- ---- nor is it the answer of another work

failed_other : (v : Verdict) → other (failed_at v) ≡ true
failed_other (V.Failed at) = refl
failed_other (V.Done at) = refl
failed_other (V.Absent at) = refl
failed_other (V.Unknown at) = refl
failed_other (V.Unsupported at) = refl
failed_other (V.Ended why) = refl
failed_other V.Unsent = refl

last_other : (o : Option Answer) (answers : List Answer) → other o ≡ true → are_other answers ≡ true → other (last_or o answers) ≡ true
last_other o [] h k = h
last_other o (x ∷ xs) h k = last_other (Some x) xs (first_other x (are_other xs) k) (rest (not (is_got x)) k)
  where
    rest : (t : Bool) → (t && are_other xs) ≡ true → are_other xs ≡ true
    rest true e = e
    rest false e = apart e

last_failed_other : (asked : List Asking) → other (last_failed asked) ≡ true
last_failed_other asked = last_other None (filter_map (λ (a : Asking). failed_at a.verdict) asked) refl (all_other (λ (a : Asking). failed_at a.verdict) (λ a. failed_other a.verdict) asked)

pub never_failed : (asked : List Asking) → last_failed asked ≡ Some A.Got → ⊥
never_failed asked e = let P : Option Answer → Type 0 = λ o. other o ≡ true in apart (subst P e (last_failed_other asked))

no_length : (lengths : List ℕ) → map A.Size lengths ≡ A.Got ∷ [] → ⊥
no_length [] e = cc
no_length (n ∷ more) e = cc

plain_store_other : (key : Parts) (file : List ℕ) (asked : List Asking) (calls : List Call) → PlainStoreAnswers key file asked calls A.Got → ⊥
plain_store_other key file asked calls h = by_tests (fits_length key (lengths_found file calls)) (nat_lt 0 (count_by is_done asked)) h.answered
  where
    by_tests : (b c : Bool) → MatchBool b (MatchBool c (A.Got ≡ A.Stored) (last_failed asked ≡ Some A.Got)) (map A.Size (lengths_found file calls) ≡ A.Got ∷ []) → ⊥
    by_tests true true e = cc
    by_tests true false e = never_failed asked e
    by_tests false c e = no_length (lengths_found file calls) e

short_other : (setup : Setup) (t : TaskTurn) (file : List ℕ) (asked : List Asking) (calls : List Call) (parts : List Part) → IsShort setup t file asked calls parts A.Got → ⊥
short_other setup t file asked calls [] h = h
short_other setup t file asked calls (part ∷ more) h = let e : A.Got ≡ _ = h.2 in cc

stored_short_other : (setup : Setup) (t : TaskTurn) (file : List ℕ) (asked : List Asking) (calls : List Call) (parts : List Part) → IsStoredShort setup t file asked calls parts A.Got → ⊥
stored_short_other setup t file asked calls parts h = by_case (last_failed asked) (last_failed_other asked) h
  where
    by_case : (o : Option Answer) → other o ≡ true → MatchOption o (IsShort setup t file asked calls parts A.Got) (λ failed. A.Got ≡ failed) → ⊥
    by_case None k h = short_other setup t file asked calls parts h
    by_case (Some failed) k e = not_other failed e k

chunk_store_other : (setup : Setup) (t : TaskTurn) (key : Parts) (file : List ℕ) (asked : List Asking) (calls : List Call) (noted : List Noting) → ChunkStoreAnswers setup t key file asked calls noted A.Got → ⊥
chunk_store_other setup t key file asked calls noted h =
    by_tests (fits_length key (lengths_found file (take 1 calls))) (stored asked == length (parts_of_layout key setup.chunk)) (parts_left key setup.chunk asked) h.answered
  where
    by_tests : (b c : Bool) (parts : List Part)
        → MatchBool b (MatchBool c ((A.Got ≡ A.Stored) × (length noted ≡ 1)) (IsStoredShort setup t file asked calls parts A.Got)) (map A.Size (lengths_found file (take 1 calls)) ≡ A.Got ∷ []) → ⊥
    by_tests true true parts h = let e : A.Got ≡ A.Stored = h.0 in cc
    by_tests true false parts h = stored_short_other setup t file asked calls parts h
    by_tests false c parts e = no_length (lengths_found file (take 1 calls)) e

unknown_other : (v : Verdict) → other (unknown_at v) ≡ true
unknown_other (V.Unknown at) = refl
unknown_other (V.Done at) = refl
unknown_other (V.Failed at) = refl
unknown_other (V.Absent at) = refl
unknown_other (V.Unsupported at) = refl
unknown_other (V.Ended why) = refl
unknown_other V.Unsent = refl

not_there_other : (answers : List Answer) → are_other answers ≡ true → not (is_got (first_or A.Absent answers)) ≡ true
not_there_other [] h = refl
not_there_other (x ∷ xs) h = first_other x (are_other xs) h

check_other : (layouts : List (List Parts)) (asked : List Asking) → CheckAnswers layouts asked A.Got → ⊥
check_other layouts asked h = by_test (list_any is_there (zip layouts (rounds asked))) h.found
  where
    none_there : not (is_got (not_there asked)) ≡ true
    none_there = not_there_other (filter_map (λ (a : Asking). unknown_at a.verdict) asked) (all_other (λ (a : Asking). unknown_at a.verdict) (λ a. unknown_other a.verdict) asked)

    by_test : (b : Bool) → MatchBool b (A.Got ≡ A.Present) ((count_by (λ a. not (is_done a)) asked ≡ length layouts) × (A.Got ≡ not_there asked)) → ⊥
    by_test true e = cc
    by_test false h = not_other (not_there asked) h.1 none_there

drop_other : (key : Parts) (sizes : List ℕ) (asked : List Asking) → DropAnswers key sizes asked A.Got → ⊥
drop_other key sizes asked h = by_test (count_by is_done asked == length (keys_dropped key sizes)) h.dropped
  where
    by_test : (b : Bool) → MatchBool b (A.Got ≡ A.Dropped) (last_failed asked ≡ Some A.Got) → ⊥
    by_test true e = cc
    by_test false e = never_failed asked e

one_other : (success : Answer) (asked : List Asking) → not (is_got success) ≡ true → DoneOrFailed success asked A.Got → ⊥
one_other success asked k h = by_test (nat_lt 0 (count_by is_done asked)) h
  where
    by_test : (b : Bool) → MatchBool b (A.Got ≡ success) (last_failed asked ≡ Some A.Got) → ⊥
    by_test true e = not_other success e k
    by_test false e = never_failed asked e

-- ---- what a get that ends with it has checked

said : (setup : Setup) (t : TaskTurn) (key : Parts) (sizes : List ℕ) (file : List ℕ) (asked : List Asking) (calls : List Call) (lengths : List ℕ) (Done : Type 0)
    → DecidesBy lengths Done (IsChecked setup t key sizes file asked calls A.Got) A.Got → FitsKey key (checked setup t file sizes asked calls)
said setup t key sizes file asked calls [] Done h = h.1.said
said setup t key sizes file asked calls (n ∷ more) Done h = absurd cc

pub get_fits : (setup : Setup) (t : TaskTurn) (key : Parts) (sizes : List ℕ) (file : List ℕ) (asked : List Asking) (calls : List Call)
    → GetAnswers setup t key sizes file asked calls A.Got → FitsKey key (checked setup t file sizes asked calls)
get_fits setup t key sizes file asked calls h = by_test (failures asked == length sizes) h.answered
  where
    by_test : (b : Bool) → MatchBool b (last_failed asked ≡ Some A.Got) (Decides setup t key sizes file asked calls A.Got) → FitsKey key (checked setup t file sizes asked calls)
    by_test true e = absurd (never_failed asked e)
    by_test false d = said setup t key sizes file asked calls _ _ d.by_length

store_other : (setup : Setup) (t : TaskTurn) (task : Task) (key : Parts) (asked : List Asking) (calls : List Call) (noted : List Noting) (b : Bool)
    → MatchBool b (ChunkStoreAnswers setup t key task.file asked calls noted A.Got) (PlainStoreAnswers key task.file asked calls A.Got) → ⊥
store_other setup t task key asked calls noted true h = chunk_store_other setup t key task.file asked calls noted h
store_other setup t task key asked calls noted false h = plain_store_other key task.file asked calls h

work_is : (setup : Setup) (t : TaskTurn) (task : Task) (key : Parts) (layouts : List (ℕ × ℕ)) (asked : List Asking) (calls : List Call) (noted : List Noting) (work : Work)
    → task.work ≡ work → WorkAnswers setup t task key layouts work asked calls noted A.Got → IsGot task t setup layouts asked calls key
work_is setup t task key layouts asked calls noted W.Store e h = absurd (store_other setup t task key asked calls noted (is_chunked setup key) h)
work_is setup t task key layouts asked calls noted W.Get e h = record { work = ap is_get e; fits = rw e (get_fits setup t key (sizes_tried key layouts) task.file asked calls h) }
work_is setup t task key layouts asked calls noted W.Check e h = absurd (check_other (layouts_tried key layouts) asked h)
work_is setup t task key layouts asked calls noted W.Drop e h = absurd (drop_other key (sizes_tried key layouts) asked h)
work_is setup t task key layouts asked calls noted W.XStore e h = absurd (plain_store_other key task.file asked calls h)
work_is setup t task key layouts asked calls noted W.XGet e h = record { work = ap is_get e; fits = rw e (get_fits setup t key (0 ∷ []) task.file asked calls h) }
work_is setup t task key layouts asked calls noted W.XCheck e h = absurd (check_other ((key ∷ []) ∷ []) asked h)
work_is setup t task key layouts asked calls noted W.XDrop e h = absurd (one_other A.Dropped asked refl h)
work_is setup t task key layouts asked calls noted W.XRename e h = absurd (one_other A.Renamed asked refl h)

of_run : (setup : Setup) (t : TaskTurn) (task : Task) (key : Parts) (layouts : List (ℕ × ℕ)) (asked : List Asking) (calls : List Call) (noted : List Noting)
    → RunOf setup t task key layouts asked calls noted A.Got → IsGot task t setup layouts asked calls key
of_run setup t task key layouts asked calls noted r =
    work_is setup t task key layouts asked calls noted task.work refl (finished _ _ (stops_other task.work (part_of task.file) asked calls) r.answered)

pub got_needs_fit : GotNeedsFit
got_needs_fit task t setup layouts asked calls noted key e r =
    let P : Option Parts → Type 0 = λ o. IfSome o (λ k. RunOf setup t task k layouts asked calls noted A.Got) in
    of_run setup t task key layouts asked calls noted (subst P e r)
