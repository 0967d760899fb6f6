-- How a store in chunks ends.
use Rattle.std.proofs.Common.{◌≡◌, ◌≢◌, ◌∙◌, ℕ, ◌+◌, ◌-◌, ◌^◌, ◌<◌, ◌≤◌, List, [], ◌∷◌, ◌++◌, length, map, refl, sym, ap, subst, arith, append_assoc, take, drop, length-append, length-take-le}
use Rattle.std.specs.Prelude.{Bool, true, false, ◌&&◌, ◌||◌, not, nat_lt, count_by, Some, is_some, is_none}
use Rattle.std.specs.List.{list_all, list_any, range_with_len}
use Rattle.std.proofs.lemmas.List.Elements.{filter_map-append}
use Rattle.std.proofs.lemmas.Bool.{and_parts, lt-ltb as lt_true}
use Rattle.ann_key.specs.Keys.{Parts, with_chunk}
use Rattle.task_text.specs.Layouts.Layouts.{Part, chunk_part, count_of}
use Rattle.journal_model.specs.declared.verdict.Verdict.{Verdict}
use Rattle.journal_model.specs.declared.verdict.Verdict.TheVariants.{Done, Failed, Absent, Unknown, Unsupported, Ended, Unsent}
use Rattle.journal_model.specs.declared.answer.Answer.{Answer}
use Rattle.journal_model.specs.declared.answer.Answer.TheVariants as A
use Rattle.task_text.specs.declared.task.Task.{Task}
use Rattle.task_text.specs.declared.task.Work.TheVariants as W
use Rattle.ann_outside.specs.declared.file_desk.Call.{Call}
use Rattle.task_model.specs.Askers.{Asking, Noting, is_gone}
use Rattle.task_model.specs.declared.setup.Setup.{Setup}
use Rattle.task_model.specs.declared.turn.TaskTurn.{TaskTurn}
use Rattle.task_model.specs.Stops.{asking_stop, call_stop, verdict_stop, AnsweredBy, all_but_last, is_done, is_done_at, is_question}
use Rattle.task_model.specs.Names.{part_of}
use Rattle.task_model.specs.Requests.{AskInOrder}
use Rattle.task_model.specs.Layouts.{parts_of_layout}
use Rattle.task_model.specs.Discipline.{are_found}
use Rattle.task_model.specs.Checks.{present_request}
use Rattle.task_model.specs.Stores.{is_size_call, are_whole, are_removed, is_next_copied, chunk_request, questions, found, transfers, ChunkStoreAsks}
use Rattle.task_model.specs.Runs.{RunOf, WorkAnswers, is_chunked}
use Rattle.task_model.specs.TaskCalls.{StoreCalls}
use Rattle.task_run.specs.Store.ChunkStoring.{chunk_keys, is_missing_at, IsSought}
use Rattle.task_model.proofs.Lists.{but_last, all_taken, none_stop}
use Rattle.task_run.proofs.StoreLemmas.ChunkStoreRuns.{Front, with_size, is_free}
use Rattle.task_run.proofs.StoreLemmas.ChunkStoreParts.{Chunked, chunk_parts, keys_are, missing_are, parts_many, Split, split_of, there_questions, all_questions, order_front, found_there, no_more_found, done_stays, missing_stays, missing_undone, are_whole_from, are_removed_from, next_of, drop_range}
use Rattle.ann_key.proofs.Lists.{same_name, all_still as all_imp, all_more}
use Rattle.ann_key.proofs.Booleans.{false_is_true as apart}
use Rattle.ann_key.proofs.Numbers.{same_number as nat_same}
use Rattle.task_model.proofs.NamedRuns.{nameless}

-- ---- what is asked, for any questions and what follows them

pub record Pieces (setup : Setup) (t : TaskTurn) (key : Parts) (file : List ℕ) (size f : ℕ) (qs ts : List Asking) (calls : List Call) : Type 0 where
  pub split : Split (qs ++ ts) qs ts f
  pub no_size : list_any is_size_call calls ≡ false
  pub in_order : AskInOrder present_request 1 (chunk_keys key setup.chunk 1 (count_of size setup.chunk)) qs
  pub each_found : list_all is_done (all_but_last qs) ≡ true
  pub only_missing : (nat_lt f (length qs) || list_all (λ (a : Asking). not (is_some a.request)) ts) ≡ true
  pub then_in_order : AskInOrder (chunk_request setup t) (length qs + 1) (chunk_keys key setup.chunk (f + 1) (count_of size setup.chunk - f)) ts
  pub each_stored : list_all is_done (all_but_last ts) ≡ true
  pub each_whole : (not (nat_lt f (length qs)) || are_whole setup t file (with_size file size calls) (length qs + 1) (chunk_parts setup key size (f + 1) (count_of size setup.chunk - f)) ts) ≡ true
  pub next : is_next_copied setup t file (with_size file size calls) (length (qs ++ ts) + 1) (drop (length ts) (chunk_parts setup key size (f + 1) (count_of size setup.chunk - f))) ≡ true
  pub each_removed : are_removed setup t (with_size file size calls) (length qs + 1) (all_but_last ts) ≡ true

abbrev pub the_note : Setup → ℕ → ℕ → Noting
the_note setup count behind = record { chunk = setup.chunk; count = count; behind = behind }

missing_keys : (setup : Setup) (key : Parts) (size m k : ℕ) → map (λ (p : Part). p.key) (chunk_parts setup key size m k) ≡ chunk_keys key setup.chunk m k
missing_keys setup key size m k = go (range_with_len m k)
  where
    go : (ns : List ℕ) → map (λ (p : Part). p.key) (map (chunk_part key size setup.chunk) ns) ≡ map (λ number. with_chunk setup.chunk number key) ns
    go [] = refl
    go (n ∷ ns) = ap (λ l. with_chunk setup.chunk n key ∷ l) (go ns)

pub asks_of : (setup : Setup) (t : TaskTurn) (key : Parts) (file : List ℕ) (size f : ℕ) (qs ts : List Asking) (calls : List Call) (noted : List Noting) → Chunked setup key size
    → Pieces setup t key file size f qs ts calls
    → noted ≡ take (length noted) (the_note setup (count_of size setup.chunk) (length (qs ++ ts)) ∷ []) → (noted ≢ [] → f + count_by is_done ts ≡ count_of size setup.chunk)
    → ChunkStoreAsks setup t key file (qs ++ ts) (with_size file size calls) noted
asks_of setup t key file size f qs ts calls noted k p once whole = record {
  size_first = rw p.no_size refl;
  fits = λ some. rw (same_name file) (rw k.sized (nat_same size));
  questions_in_order = rw (s.front, keys_are setup key size k) p.in_order;
  each_found = let P : List Asking → Type 0 = λ l. list_all is_done (all_but_last l) ≡ true in subst P (sym s.front) p.each_found;
  only_missing = rw (s.behind, s.there, s.so_many) p.only_missing;
  transfers_in_order = at_keys (transfers asked) (questions asked) (found asked) s.behind s.so_many s.there;
  each_stored = let P : List Asking → Type 0 = λ l. list_all is_done (all_but_last l) ≡ true in subst P (sym s.behind) p.each_stored;
  each_whole = at_whole (transfers asked) (questions asked) (found asked) s.behind s.so_many s.there;
  next_copied = at_next (transfers asked) (found asked) s.behind s.there;
  each_removed = at_removed (transfers asked) (questions asked) s.behind s.so_many;
  noted_once = rw (parts_many setup key size k) once;
  noted_last = λ some. at_noted (transfers asked) (found asked) s.behind s.there (whole some);
}
  where
    asked : List Asking
    asked = qs ++ ts

    s : Split (qs ++ ts) qs ts f
    s = p.split

    count : ℕ
    count = count_of size setup.chunk

    at_keys : (l : List Asking) (q n : ℕ) → l ≡ ts → q ≡ length qs → n ≡ f → AskInOrder (chunk_request setup t) (q + 1) (map (λ (x : Part). x.key) (drop n (parts_of_layout key setup.chunk))) l
    at_keys l q n d e g =
        let P : List Asking → Type 0 = λ l. AskInOrder (chunk_request setup t) (q + 1) (map (λ (x : Part). x.key) (drop n (parts_of_layout key setup.chunk))) l in
        let Q : ℕ → Type 0 = λ q. AskInOrder (chunk_request setup t) (q + 1) (map (λ (x : Part). x.key) (drop n (parts_of_layout key setup.chunk))) ts in
        let R : ℕ → Type 0 = λ n. AskInOrder (chunk_request setup t) (length qs + 1) (map (λ (x : Part). x.key) (drop n (parts_of_layout key setup.chunk))) ts in
        let S : List Part → Type 0 = λ ps. AskInOrder (chunk_request setup t) (length qs + 1) (map (λ (x : Part). x.key) ps) ts in
        let T : List Parts → Type 0 = λ ks. AskInOrder (chunk_request setup t) (length qs + 1) ks ts in
        subst P (sym d) (subst Q (sym e) (subst R (sym g) (subst S (sym (missing_are setup key size f k)) (subst T (sym (missing_keys setup key size (f + 1) (count_of size setup.chunk - f))) p.then_in_order))))

    at_whole : (l : List Asking) (q n : ℕ) → l ≡ ts → q ≡ length qs → n ≡ f
        → (not (nat_lt n q) || are_whole setup t file (with_size file size calls) (q + 1) (drop n (parts_of_layout key setup.chunk)) l) ≡ true
    at_whole l q n d e g =
        let P : List Asking → Type 0 = λ l. (not (nat_lt n q) || are_whole setup t file (with_size file size calls) (q + 1) (drop n (parts_of_layout key setup.chunk)) l) ≡ true in
        let Q : ℕ → Type 0 = λ q. (not (nat_lt n q) || are_whole setup t file (with_size file size calls) (q + 1) (drop n (parts_of_layout key setup.chunk)) ts) ≡ true in
        let R : ℕ → Type 0 = λ n. (not (nat_lt n (length qs)) || are_whole setup t file (with_size file size calls) (length qs + 1) (drop n (parts_of_layout key setup.chunk)) ts) ≡ true in
        let S : List Part → Type 0 = λ ps. (not (nat_lt f (length qs)) || are_whole setup t file (with_size file size calls) (length qs + 1) ps ts) ≡ true in
        subst P (sym d) (subst Q (sym e) (subst R (sym g) (subst S (sym (missing_are setup key size f k)) p.each_whole)))

    at_next : (l : List Asking) (n : ℕ) → l ≡ ts → n ≡ f
        → is_next_copied setup t file (with_size file size calls) (length (qs ++ ts) + 1) (drop (length l) (drop n (parts_of_layout key setup.chunk))) ≡ true
    at_next l n d g =
        let P : List Asking → Type 0 = λ l. is_next_copied setup t file (with_size file size calls) (length (qs ++ ts) + 1) (drop (length l) (drop n (parts_of_layout key setup.chunk))) ≡ true in
        let R : ℕ → Type 0 = λ n. is_next_copied setup t file (with_size file size calls) (length (qs ++ ts) + 1) (drop (length ts) (drop n (parts_of_layout key setup.chunk))) ≡ true in
        let S : List Part → Type 0 = λ ps. is_next_copied setup t file (with_size file size calls) (length (qs ++ ts) + 1) (drop (length ts) ps) ≡ true in
        subst P (sym d) (subst R (sym g) (subst S (sym (missing_are setup key size f k)) p.next))

    at_removed : (l : List Asking) (q : ℕ) → l ≡ ts → q ≡ length qs → are_removed setup t (with_size file size calls) (q + 1) (all_but_last l) ≡ true
    at_removed l q d e =
        let P : List Asking → Type 0 = λ l. are_removed setup t (with_size file size calls) (q + 1) (all_but_last l) ≡ true in
        let Q : ℕ → Type 0 = λ q. are_removed setup t (with_size file size calls) (q + 1) (all_but_last ts) ≡ true in
        subst P (sym d) (subst Q (sym e) p.each_removed)

    at_noted : (l : List Asking) (n : ℕ) → l ≡ ts → n ≡ f → f + count_by is_done ts ≡ count_of size setup.chunk → n + count_by is_done l ≡ length (parts_of_layout key setup.chunk)
    at_noted l n d g h =
        let P : List Asking → Type 0 = λ l. n + count_by is_done l ≡ length (parts_of_layout key setup.chunk) in
        let R : ℕ → Type 0 = λ n. n + count_by is_done ts ≡ length (parts_of_layout key setup.chunk) in
        subst P (sym d) (subst R (sym g) (h ∙ sym (parts_many setup key size k)))

-- ---- after a chunk that isn't there

pub sought_length : (key : Parts) (chunk count f : ℕ) (qs : List Asking) → IsSought key chunk count f qs → length qs ≡ f + 1
sought_length key chunk count f qs s = ap length s.asked_is ∙ length-append s.there (s.one ∷ []) ∙ ap (λ n. n + 1) s.so_many

pub sought_split : (key : Parts) (chunk count f : ℕ) (qs ts : List Asking) → IsSought key chunk count f qs → list_all (λ a. not (is_question a)) ts ≡ true → Split (qs ++ ts) qs ts f
sought_split key chunk count f qs ts s h = split_of qs ts f all h (found_is ∙ s.so_many)
  where
    in_order : AskInOrder present_request 1 (chunk_keys key chunk 1 count) (s.there ++ s.one ∷ [])
    in_order = let P : List Asking → Type 0 = λ l. AskInOrder present_request 1 (chunk_keys key chunk 1 count) l in subst P s.asked_is s.in_order

    there : list_all is_question s.there ≡ true
    there = there_questions 1 (chunk_keys key chunk 1 count) s.there (order_front 1 (chunk_keys key chunk 1 count) s.there (s.one ∷ []) in_order) s.each_there

    stay : list_all (λ (a : Asking). not (is_gone a.verdict)) qs ≡ true
    stay =
        let P : List Asking → Type 0 = λ l. list_all (λ (a : Asking). not (is_gone a.verdict)) l ≡ true in
        subst P (sym s.asked_is) (all_more (λ (a : Asking). not (is_gone a.verdict)) s.there (s.one ∷ [])
        (all_imp is_done (λ (a : Asking). not (is_gone a.verdict)) (λ a d. done_stays a.verdict d) s.there s.each_there)
        (rw (missing_stays s.one.verdict s.missing) refl))

    all : list_all is_question qs ≡ true
    all = all_questions 1 (chunk_keys key chunk 1 count) qs s.in_order stay

    none : list_all (λ a. not (is_question a && is_done a)) (s.one ∷ ts) ≡ true
    none =
        let undone : is_done s.one ≡ false = missing_undone s.one.verdict s.missing in
        let not_both : (is_question s.one && is_done s.one) ≡ false = rw undone (never (is_question s.one)) in
        rw not_both (no_more_found ts h)
      where
        never : (b : Bool) → (b && false) ≡ false
        never true = refl
        never false = refl

    found_is : found (qs ++ ts) ≡ length s.there
    found_is =
        let P : List Asking → Type 0 = λ l. found l ≡ length s.there in
        let split : qs ++ ts ≡ s.there ++ (s.one ∷ ts) = ap (λ l. l ++ ts) s.asked_is ∙ append_assoc s.there (s.one ∷ []) ts in
        subst P (sym split) (found_there s.there (s.one ∷ ts) there s.each_there none)

pub pieces_of : (setup : Setup) (t : TaskTurn) (key : Parts) (file : List ℕ) (size f : ℕ) (qs ts : List Asking) (calls : List Call) → f < count_of size setup.chunk
    → f + length ts ≤ count_of size setup.chunk
    → IsSought key setup.chunk (count_of size setup.chunk) f qs → Front setup t key file size f ts calls → Pieces setup t key file size f qs ts calls
pieces_of setup t key file size f qs ts calls low most s g = record {
  split = sought_split key setup.chunk (count_of size setup.chunk) f qs ts s g.no_questions;
  no_size = g.no_size;
  in_order = s.in_order;
  each_found = let P : List Asking → Type 0 = λ l. list_all is_done (all_but_last l) ≡ true in subst P (sym s.asked_is) (rw (but_last s.there s.one) s.each_there);
  only_missing = rw (lt_true f (length qs) (omega (arith, many))) refl;
  then_in_order = at_place (length qs + 1) (omega (arith, many));
  each_stored = g.each_stored;
  each_whole = rw (lt_true f (length qs) (omega (arith, many))) (at_whole (length qs) many);
  next = at_next (length (qs ++ ts) + 1) (omega (arith, length-append qs ts, many));
  each_removed = at_removed (length qs) many;
}
  where
    many : length qs ≡ f + 1
    many = sought_length key setup.chunk (count_of size setup.chunk) f qs s

    shorter : (l : List Asking) → length (all_but_last l) ≡ length l - 1
    shorter l = length-take-le (length l - 1) l (omega arith)

    at_place : (n : ℕ) → n ≡ f + 2 → AskInOrder (chunk_request setup t) n (chunk_keys key setup.chunk (f + 1) (count_of size setup.chunk - f)) ts
    at_place n e = let P : ℕ → Type 0 = λ n. AskInOrder (chunk_request setup t) n (chunk_keys key setup.chunk (f + 1) (count_of size setup.chunk - f)) ts in subst P (sym e) g.in_order

    at_whole : (n : ℕ) → n ≡ f + 1 → are_whole setup t file (with_size file size calls) (n + 1) (chunk_parts setup key size (f + 1) (count_of size setup.chunk - f)) ts ≡ true
    at_whole n e =
        let P : ℕ → Type 0 = λ n. are_whole setup t file (with_size file size calls) (n + 1) (chunk_parts setup key size (f + 1) (count_of size setup.chunk - f)) ts ≡ true in
        subst P (sym e) (are_whole_from setup t key file size (f + 1) (count_of size setup.chunk - f) calls ts (omega arith) (λ c least under. g.whole c (omega arith) under))

    at_next : (n : ℕ) → n ≡ f + 2 + length ts
        → is_next_copied setup t file (with_size file size calls) n (drop (length ts) (chunk_parts setup key size (f + 1) (count_of size setup.chunk - f))) ≡ true
    at_next n e =
        let P : ℕ → Type 0 = λ n. is_next_copied setup t file (with_size file size calls) n (drop (length ts) (chunk_parts setup key size (f + 1) (count_of size setup.chunk - f))) ≡ true in
        let Q : List Part → Type 0 = λ l. is_next_copied setup t file (with_size file size calls) (f + 2 + length ts) l ≡ true in
        subst P (sym e) (subst Q (sym (drop_range setup key size (length ts) (f + 1) (count_of size setup.chunk - f)))
        (next_of setup t key file size (f + 2 + length ts) (f + 1 + length ts) (count_of size setup.chunk - f - length ts) (with_size file size calls) (λ some. g.next (omega arith))))

    at_removed : (n : ℕ) → n ≡ f + 1 → are_removed setup t (with_size file size calls) (n + 1) (all_but_last ts) ≡ true
    at_removed n e =
        let P : ℕ → Type 0 = λ n. are_removed setup t (with_size file size calls) (n + 1) (all_but_last ts) ≡ true in
        subst P (sym e) (are_removed_from setup t (f + 1) (with_size file size calls) (all_but_last ts) (λ c least under. g.removed c (omega arith) (omega (arith, shorter ts, under))))

-- ---- runs

abbrev pub store_task : List ℕ → List ℕ → Task
store_task text file = record { work = W.Store; key = text; file = file; name = []; onto = [] }

pub as_store : (task : Task) → task.work ≡ W.Store → nameless task ≡ store_task task.key task.file
as_store task e = ap (λ w. record { work = w; key = task.key; file = task.file; name = []; onto = [] }) e

abbrev pub are_free : List Asking → Bool
are_free asked = list_all (λ a. is_none (asking_stop W.Store a)) asked

pub run_memory : (setup : Setup) (t : TaskTurn) (key : Parts) (text file : List ℕ) (layouts : List (ℕ × ℕ)) (asked : List Asking) (calls : List Call) (noted : List Noting)
    → is_chunked setup key ≡ true → StoreCalls setup t file asked calls → ChunkStoreAsks setup t key file asked calls noted → are_found (part_of file) [] calls ≡ true
    → are_free asked ≡ true → is_free file calls ≡ true → RunOf setup t (store_task text file) key layouts asked calls noted A.Memory
run_memory setup t key text file layouts asked calls noted k sc ca found fa fc = record {
  asked_till_stop = all_taken (λ a. is_none (asking_stop W.Store a)) _ asked fa;
  calls_till_stop = all_taken (λ call. is_none (call_stop (part_of file) call)) _ calls fc;
  found = found;
  work = (sc, rw k ca);
  answered = rw (none_stop (asking_stop W.Store) asked fa, none_stop (call_stop (part_of file)) calls fc) tt;
}

pub run_finished : (setup : Setup) (t : TaskTurn) (key : Parts) (text file : List ℕ) (layouts : List (ℕ × ℕ)) (asked : List Asking) (calls : List Call) (noted : List Noting) (answer : Answer)
    → is_chunked setup key ≡ true → StoreCalls setup t file asked calls → ChunkStoreAsks setup t key file asked calls noted → are_found (part_of file) [] calls ≡ true
    → are_free asked ≡ true → is_free file calls ≡ true → AnsweredBy [] answer (WorkAnswers setup t (store_task text file) key layouts W.Store asked calls noted answer)
    → RunOf setup t (store_task text file) key layouts asked calls noted answer
run_finished setup t key text file layouts asked calls noted answer k sc ca found fa fc h = record {
  asked_till_stop = all_taken (λ a. is_none (asking_stop W.Store a)) _ asked fa;
  calls_till_stop = all_taken (λ call. is_none (call_stop (part_of file) call)) _ calls fc;
  found = found;
  work = (sc, rw k ca);
  answered = rw (none_stop (asking_stop W.Store) asked fa, none_stop (call_stop (part_of file)) calls fc) h;
}

pub run_call_stop : (setup : Setup) (t : TaskTurn) (key : Parts) (text file : List ℕ) (layouts : List (ℕ × ℕ)) (asked : List Asking) (front : List Call) (x : Call) (answer : Answer)
    → is_chunked setup key ≡ true → StoreCalls setup t file asked (front ++ x ∷ []) → ChunkStoreAsks setup t key file asked (front ++ x ∷ []) []
    → are_found (part_of file) [] (front ++ x ∷ []) ≡ true → are_free asked ≡ true → is_free file front ≡ true → call_stop (part_of file) x ≡ Some answer
    → RunOf setup t (store_task text file) key layouts asked (front ++ x ∷ []) [] answer
run_call_stop setup t key text file layouts asked front x answer k sc ca found fa fc s = record {
  asked_till_stop = all_taken (λ a. is_none (asking_stop W.Store a)) _ asked fa;
  calls_till_stop = rw (but_last front x) fc;
  found = found;
  work = (sc, rw k ca);
  answered = rw (none_stop (asking_stop W.Store) asked fa)
      (rw (filter_map-append (call_stop (part_of file)) front (x ∷ [])) (rw (none_stop (call_stop (part_of file)) front fc) (rw s refl)));
}

pub run_asking_stop : (setup : Setup) (t : TaskTurn) (key : Parts) (text file : List ℕ) (layouts : List (ℕ × ℕ)) (front : List Asking) (a : Asking) (calls : List Call) (answer : Answer)
    → is_chunked setup key ≡ true → StoreCalls setup t file (front ++ a ∷ []) calls → ChunkStoreAsks setup t key file (front ++ a ∷ []) calls []
    → are_found (part_of file) [] calls ≡ true → are_free front ≡ true → asking_stop W.Store a ≡ Some answer → is_free file calls ≡ true
    → RunOf setup t (store_task text file) key layouts (front ++ a ∷ []) calls [] answer
run_asking_stop setup t key text file layouts front a calls answer k sc ca found fa s fc = record {
  asked_till_stop = rw (but_last front a) fa;
  calls_till_stop = all_taken (λ call. is_none (call_stop (part_of file) call)) _ calls fc;
  found = found;
  work = (sc, rw k ca);
  answered = rw (filter_map-append (asking_stop W.Store) front (a ∷ []))
      (rw (none_stop (asking_stop W.Store) front fa, none_stop (call_stop (part_of file)) calls fc) (rw s refl));
}

-- ---- askings that end nothing

free_done : (a : Asking) → is_done a ≡ true → is_none (asking_stop W.Store a) ≡ true
free_done a h = by_verdict a.verdict (is_question a) h
  where
    by_verdict : (v : Verdict) (b : Bool) → is_done_at v ≡ true → is_none (verdict_stop b v) ≡ true
    by_verdict (Done at) b h = refl
    by_verdict (Failed at) b h = apart h
    by_verdict (Absent at) b h = apart h
    by_verdict (Unknown at) b h = apart h
    by_verdict (Unsupported at) b h = apart h
    by_verdict (Ended why) b h = apart h
    by_verdict Unsent b h = apart h

free_missing : (a : Asking) → is_question a ≡ true → is_missing_at a.verdict ≡ true → is_none (asking_stop W.Store a) ≡ true
free_missing a q h = rw q (by_verdict a.verdict h)
  where
    by_verdict : (v : Verdict) → is_missing_at v ≡ true → is_none (verdict_stop true v) ≡ true
    by_verdict (Done at) h = apart h
    by_verdict (Failed at) h = apart h
    by_verdict (Absent at) h = refl
    by_verdict (Unknown at) h = refl
    by_verdict (Unsupported at) h = refl
    by_verdict (Ended why) h = apart h
    by_verdict Unsent h = apart h

pub all_done_free : (xs : List Asking) → list_all is_done xs ≡ true → are_free xs ≡ true
all_done_free xs h = all_imp is_done (λ a. is_none (asking_stop W.Store a)) free_done xs h

pub sought_free : (key : Parts) (chunk count f : ℕ) (qs : List Asking) → IsSought key chunk count f qs → are_free qs ≡ true
sought_free key chunk count f qs s =
    let P : List Asking → Type 0 = λ l. are_free l ≡ true in
    subst P (sym s.asked_is) (all_more (λ a. is_none (asking_stop W.Store a)) s.there (s.one ∷ []) (all_done_free s.there s.each_there) (rw (free_missing s.one one_asks s.missing) refl))
  where
    in_order : AskInOrder present_request 1 (chunk_keys key chunk 1 count) (s.there ++ s.one ∷ [])
    in_order = let P : List Asking → Type 0 = λ l. AskInOrder present_request 1 (chunk_keys key chunk 1 count) l in subst P s.asked_is s.in_order

    stay : list_all (λ (a : Asking). not (is_gone a.verdict)) (s.there ++ s.one ∷ []) ≡ true
    stay = all_more (λ (a : Asking). not (is_gone a.verdict)) s.there (s.one ∷ [])
        (all_imp is_done (λ (a : Asking). not (is_gone a.verdict)) (λ a d. done_stays a.verdict d) s.there s.each_there)
        (rw (missing_stays s.one.verdict s.missing) refl)

    all : list_all is_question (s.there ++ s.one ∷ []) ≡ true
    all = all_questions 1 (chunk_keys key chunk 1 count) (s.there ++ s.one ∷ []) in_order stay

    one_asks : is_question s.one ≡ true
    one_asks = last_of s.there all
      where
        last_of : (xs : List Asking) → list_all is_question (xs ++ s.one ∷ []) ≡ true → is_question s.one ≡ true
        last_of [] h = (and_parts (is_question s.one) true h).0
        last_of (x ∷ xs) h = last_of xs (and_parts (is_question x) (list_all is_question (xs ++ s.one ∷ [])) h).1

-- ---- a store after a chunk that isn't there

-- what is known of it
pub record Missing (setup : Setup) (key : Parts) (size f : ℕ) (qs : List Asking) : Type 0 where
  pub chunked : Chunked setup key size
  pub sought : IsSought key setup.chunk (count_of size setup.chunk) f qs
  pub least : f < count_of size setup.chunk
  pub small : count_of size setup.chunk + 1 < 2 ^ 64

pub chunked_is : (setup : Setup) (key : Parts) (size : ℕ) → Chunked setup key size → is_chunked setup key ≡ true
chunked_is setup key size h = rw (h.some, h.sized) refl

pub calls_of : (setup : Setup) (t : TaskTurn) (key : Parts) (file : List ℕ) (size f : ℕ) (qs ts : List Asking) (calls : List Call) → Missing setup key size f qs
    → Front setup t key file size f ts calls → StoreCalls setup t file (qs ++ ts) (with_size file size calls)
calls_of setup t key file size f qs ts calls m g = record {
  names = rw (same_name file) (g.names (length (qs ++ ts) + 1) (omega (arith, length-append qs ts, many)));
  changes = g.changes (length (qs ++ ts) + 1) (omega (arith, length-append qs ts, many));
  lengths = rw (same_name file) g.lengths;
}
  where
    many : length qs ≡ f + 1
    many = sought_length key setup.chunk (count_of size setup.chunk) f qs m.sought

pub front_asks : (setup : Setup) (t : TaskTurn) (key : Parts) (file : List ℕ) (size f : ℕ) (qs ts : List Asking) (calls : List Call) → Missing setup key size f qs
    → f + length ts ≤ count_of size setup.chunk → Front setup t key file size f ts calls → ChunkStoreAsks setup t key file (qs ++ ts) (with_size file size calls) []
front_asks setup t key file size f qs ts calls m most g =
    asks_of setup t key file size f qs ts calls [] m.chunked (pieces_of setup t key file size f qs ts calls m.least most m.sought g) refl (λ some. absurd (some refl))

-- running out of memory after a front
pub end_memory : (setup : Setup) (t : TaskTurn) (key : Parts) (text file : List ℕ) (layouts : List (ℕ × ℕ)) (size f : ℕ) (qs ts : List Asking) (calls : List Call) → Missing setup key size f qs
    → f + length ts ≤ count_of size setup.chunk → Front setup t key file size f ts calls → are_free ts ≡ true → is_free file calls ≡ true
    → RunOf setup t (store_task text file) key layouts (qs ++ ts) (with_size file size calls) [] A.Memory
end_memory setup t key text file layouts size f qs ts calls m most g fa fc =
    run_memory setup t key text file layouts (qs ++ ts) (with_size file size calls) [] (chunked_is setup key size m.chunked) (calls_of setup t key file size f qs ts calls m g)
    (front_asks setup t key file size f qs ts calls m most g) g.found
    (all_more (λ a. is_none (asking_stop W.Store a)) qs ts (sought_free key setup.chunk (count_of size setup.chunk) f qs m.sought) fa) fc

-- a call that stops the task
pub end_call : (setup : Setup) (t : TaskTurn) (key : Parts) (text file : List ℕ) (layouts : List (ℕ × ℕ)) (size f : ℕ) (qs ts : List Asking) (calls : List Call) (x : Call) (answer : Answer) → Missing setup key size f qs
    → f + length ts ≤ count_of size setup.chunk → Front setup t key file size f ts (calls ++ x ∷ []) → are_free ts ≡ true → is_free file calls ≡ true → call_stop (part_of file) x ≡ Some answer
    → RunOf setup t (store_task text file) key layouts (qs ++ ts) (with_size file size (calls ++ x ∷ [])) [] answer
end_call setup t key text file layouts size f qs ts calls x answer m most g fa fc s =
    run_call_stop setup t key text file layouts (qs ++ ts) (with_size file size calls) x answer (chunked_is setup key size m.chunked) (calls_of setup t key file size f qs ts (calls ++ x ∷ []) m g)
    (front_asks setup t key file size f qs ts (calls ++ x ∷ []) m most g) g.found
    (all_more (λ a. is_none (asking_stop W.Store a)) qs ts (sought_free key setup.chunk (count_of size setup.chunk) f qs m.sought) fa) fc s

-- a request that stops it
pub end_asking : (setup : Setup) (t : TaskTurn) (key : Parts) (text file : List ℕ) (layouts : List (ℕ × ℕ)) (size f : ℕ) (qs ts : List Asking) (a : Asking) (calls : List Call) (answer : Answer) → Missing setup key size f qs
    → f + length (ts ++ a ∷ []) ≤ count_of size setup.chunk → Front setup t key file size f (ts ++ a ∷ []) calls → are_free ts ≡ true → asking_stop W.Store a ≡ Some answer → is_free file calls ≡ true
    → RunOf setup t (store_task text file) key layouts (qs ++ (ts ++ a ∷ [])) (with_size file size calls) [] answer
end_asking setup t key text file layouts size f qs ts a calls answer m most g fa s fc =
    let P : List Asking → Type 0 = λ l. RunOf setup t (store_task text file) key layouts l (with_size file size calls) [] answer in
    let Q : List Asking → Type 0 = λ l. StoreCalls setup t file l (with_size file size calls) in
    let R : List Asking → Type 0 = λ l. ChunkStoreAsks setup t key file l (with_size file size calls) [] in
    let e : (qs ++ ts) ++ a ∷ [] ≡ qs ++ (ts ++ a ∷ []) = append_assoc qs ts (a ∷ []) in
    subst P e (run_asking_stop setup t key text file layouts (qs ++ ts) a (with_size file size calls) answer (chunked_is setup key size m.chunked)
    (subst Q (sym e) (calls_of setup t key file size f qs (ts ++ a ∷ []) calls m g))
    (subst R (sym e) (front_asks setup t key file size f qs (ts ++ a ∷ []) calls m most g)) g.found
    (all_more (λ a. is_none (asking_stop W.Store a)) qs ts (sought_free key setup.chunk (count_of size setup.chunk) f qs m.sought) fa) s fc)
