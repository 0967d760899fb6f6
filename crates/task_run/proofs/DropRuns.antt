-- Runs of drops, layout by layout.
use Rattle.std.proofs.Common.{◌≡◌, ◌∙◌, ℕ, ◌+◌, ◌-◌, ◌<◌, ◌≤◌, List, [], ◌∷◌, ◌++◌, length, map, take, get_or, refl, sym, ap, subst, inl, inr, arith, append_assoc, append-nil, length-append}
use Rattle.std.specs.Prelude.{Bool, true, false, ◌&&◌, ◌==◌, nat_le, nat_lt, Option, Some, None, IfSome, Result, Ok, Err, count_by, cond, if◌then◌else◌, ◌⊎◌}
use Rattle.std.specs.List.{list_all, filter_map, last_or}
use Rattle.std.proofs.Math.Seq.{take-append_seam, take-length}
use Rattle.std.proofs.lemmas.Bool.{eq-eqb, eqb-true, le-leb as le_test}
use Rattle.std.proofs.lemmas.Bool.Decides.{nat_tests}
use Rattle.std.proofs.lemmas.List.{map-append, take_all}
use Rattle.std.proofs.lemmas.List.Concat.{flat_map-append}
use Rattle.std.proofs.lemmas.List.Folds.{list_all-append}
use Rattle.std.proofs.lemmas.List.Elements.{filter_map-append}
use Rattle.std.proofs.lemmas.List.Sums.{sum_by-append, sum_by-cons, count_by-le-length}
use Rattle.ann_key.specs.Keys.{Parts, key_reading}
use Rattle.ann_key.specs.declared.bytes.NoMemory.{NoMemory}
use Rattle.annex_model.specs.Messages.{HostMessage, Remove}
use Rattle.journal_model.specs.declared.verdict.Verdict.{Verdict}
use Rattle.journal_model.specs.declared.verdict.Verdict.TheVariants.{Done, Failed, Absent, Unknown, Unsupported, Ended as EndedAt, Unsent}
use Rattle.journal_model.specs.declared.answer.Answer.{Answer}
use Rattle.journal_model.specs.declared.answer.Answer.TheVariants as A
use Rattle.task_text.specs.declared.task.Task.{Task}
use Rattle.task_text.specs.declared.task.Work.TheVariants as W
use Rattle.task_model.specs.Askers.{Asking, Noting}
use Rattle.task_model.specs.declared.setup.Setup.{Setup}
use Rattle.task_model.specs.declared.turn.TaskTurn.{TaskTurn}
use Rattle.task_run.specs.declared.layouts.Query.TheVariants as Q
use Rattle.task_model.specs.Stops.{is_done, is_done_at, verdict_stop, failed_at, last_failed, all_but_last, AnsweredBy}
use Rattle.task_model.specs.Layouts.{keys_of_layout, sizes_tried}
use Rattle.task_model.specs.Requests.{AskInOrder}
use Rattle.task_model.specs.Drops.{remove_request, keys_dropped, drop_notes, DropAsks, DropAnswers}
use Rattle.task_model.specs.Runs.{RunOf, TaskRun}
use Rattle.task_model.specs.Ran.{answered, behind_more, is_verdict_of, may_follow_refusal, undone_answer}
use Rattle.task_run.specs.Rounds.{RoundAsks, Removed, RanNoting, notes_none}
use Rattle.task_run.proofs.CheckRuns.{goes_on, all_done_go_on, none_stops, take_next}
use Rattle.task_model.proofs.NamedRuns.{nameless, with_names}
use Rattle.task_text.specs.Works.{has_name}
use Rattle.task_run.proofs.StoreLemmas.ChunkStoreTasks.{all_counted as count_all}
use Rattle.ann_key.proofs.Booleans.{false_is_true as apart}
use Rattle.task_model.proofs.Lists.{but_last, all_taken as all_take}
use Rattle.task_model.proofs.Across.{order_fits}

-- ---- what a drop notes

notes_both : (key : Parts) (behind : ℕ) (xs ys : List ℕ) → drop_notes key behind (xs ++ ys) ≡ drop_notes key behind xs ++ drop_notes key (behind + length (keys_dropped key xs)) ys
notes_both key behind [] ys = let e : behind + 0 ≡ behind = omega arith in rw e refl
notes_both key behind (x ∷ xs) ys = by_test (x == 0) (notes_both key (behind + length (keys_of_layout key x)) xs ys)
  where
    place : behind + length (keys_of_layout key x) + length (keys_dropped key xs) ≡ behind + length (keys_dropped key (x ∷ xs))
    place = omega (arith, length-append (keys_of_layout key x) (keys_dropped key xs))

    by_test : (t : Bool)
        → drop_notes key (behind + length (keys_of_layout key x)) (xs ++ ys) ≡ drop_notes key (behind + length (keys_of_layout key x)) xs ++ drop_notes key (behind + length (keys_of_layout key x) + length (keys_dropped key xs)) ys
        → (if t then drop_notes key (behind + length (keys_of_layout key x)) (xs ++ ys) else record { chunk = x; count = 0; behind = behind + length (keys_of_layout key x) } ∷ drop_notes key (behind + length (keys_of_layout key x)) (xs ++ ys))
        ≡ (if t then drop_notes key (behind + length (keys_of_layout key x)) xs else record { chunk = x; count = 0; behind = behind + length (keys_of_layout key x) } ∷ drop_notes key (behind + length (keys_of_layout key x)) xs) ++ drop_notes key (behind + length (keys_dropped key (x ∷ xs))) ys
    by_test true next = rw (← place) next
    by_test false next = rw (← place) (ap (λ (l : List Noting). record { chunk = x; count = 0; behind = behind + length (keys_of_layout key x) } ∷ l) next)

-- each stands after its layout's keys, of which there are some
notes_within : (key : Parts) (behind most : ℕ) (xs : List ℕ) → behind + length (keys_dropped key xs) ≤ most → list_all (λ (note : Noting). nat_le note.behind most) (drop_notes key behind xs) ≡ true
notes_within key behind most [] h = refl
notes_within key behind most (x ∷ xs) h = by_test (x == 0) (notes_within key (behind + length (keys_of_layout key x)) most xs (omega (arith, length-append (keys_of_layout key x) (keys_dropped key xs))))
  where
    here : nat_le (behind + length (keys_of_layout key x)) most ≡ true
    here = let l : behind + length (keys_of_layout key x) ≤ most = omega (arith, length-append (keys_of_layout key x) (keys_dropped key xs)) in grind (arith, nat_tests)

    by_test : (t : Bool) → list_all (λ (note : Noting). nat_le note.behind most) (drop_notes key (behind + length (keys_of_layout key x)) xs) ≡ true
        → list_all (λ (note : Noting). nat_le note.behind most) (if t then drop_notes key (behind + length (keys_of_layout key x)) xs
        else record { chunk = x; count = 0; behind = behind + length (keys_of_layout key x) } ∷ drop_notes key (behind + length (keys_of_layout key x)) xs) ≡ true
    by_test true next = next
    by_test false next = rw (here, next) refl

notes_later : (key : Parts) (behind n : ℕ) (x : ℕ) (xs : List ℕ) → n ≤ behind + length (keys_of_layout key x) → count_by (λ (note : Noting). nat_lt note.behind n) (drop_notes key behind (x ∷ xs)) ≡ 0
notes_later key behind n x xs h = by_test (x == 0) (rest xs)
  where
    late : (b : ℕ) → n ≤ b → nat_lt b n ≡ false
    late b l = grind (arith, nat_tests)

    all_later : (b : ℕ) → n ≤ b → (ys : List ℕ) → count_by (λ (note : Noting). nat_lt note.behind n) (drop_notes key b ys) ≡ 0
    all_later b l [] = refl
    all_later b l (y ∷ ys) = by_y (y == 0) (all_later (b + length (keys_of_layout key y)) (omega arith) ys)
      where
        by_y : (t : Bool) → count_by (λ (note : Noting). nat_lt note.behind n) (drop_notes key (b + length (keys_of_layout key y)) ys) ≡ 0
            → count_by (λ (note : Noting). nat_lt note.behind n) (if t then drop_notes key (b + length (keys_of_layout key y)) ys
            else record { chunk = y; count = 0; behind = b + length (keys_of_layout key y) } ∷ drop_notes key (b + length (keys_of_layout key y)) ys) ≡ 0
        by_y true next = next
        by_y false next =
            sum_by-cons (λ (note : Noting). cond (nat_lt note.behind n) 1 0) (record { chunk = y; count = 0; behind = b + length (keys_of_layout key y) }) (drop_notes key (b + length (keys_of_layout key y)) ys)
            ∙ rw (late (b + length (keys_of_layout key y)) (omega arith), next) refl

    rest : (ys : List ℕ) → count_by (λ (note : Noting). nat_lt note.behind n) (drop_notes key (behind + length (keys_of_layout key x)) ys) ≡ 0
    rest ys = all_later (behind + length (keys_of_layout key x)) h ys

    by_test : (t : Bool) → count_by (λ (note : Noting). nat_lt note.behind n) (drop_notes key (behind + length (keys_of_layout key x)) xs) ≡ 0
        → count_by (λ (note : Noting). nat_lt note.behind n) (if t then drop_notes key (behind + length (keys_of_layout key x)) xs
        else record { chunk = x; count = 0; behind = behind + length (keys_of_layout key x) } ∷ drop_notes key (behind + length (keys_of_layout key x)) xs) ≡ 0
    by_test true next = next
    by_test false next =
        sum_by-cons (λ (note : Noting). cond (nat_lt note.behind n) 1 0) (record { chunk = x; count = 0; behind = behind + length (keys_of_layout key x) }) (drop_notes key (behind + length (keys_of_layout key x)) xs)
        ∙ rw (late (behind + length (keys_of_layout key x)) h, next) refl

not_equal : (a b : ℕ) → (a ≡ b → ⊥) → (a == b) ≡ false
not_equal a b h = by_test (a == b) refl
  where
    by_test : (t : Bool) → (a == b) ≡ t → (a == b) ≡ false
    by_test false e = e
    by_test true e = absurd (h (eqb-true a b e))

-- ---- what a drop asks

order_both : (ask : ℕ → List ℕ → HostMessage) (n : ℕ) (keys more : List Parts) (asked round : List Asking) → length asked ≡ length keys → AskInOrder ask n keys asked → ((m : ℕ) → AskInOrder ask m more round)
    → AskInOrder ask n (keys ++ more) (asked ++ round)
order_both ask n [] more [] round e o h = h n
order_both ask n [] more (a ∷ asked) round e o h = absurd (omega arith)
order_both ask n (k ∷ keys) more [] round e o h = absurd (omega arith)
order_both ask n (k ∷ keys) more (a ∷ asked) round e o h = (o.0, order_both ask (n + 1) keys more asked round (omega arith) o.1 h)

order_front : (ask : ℕ → List ℕ → HostMessage) (n : ℕ) (keys more : List Parts) (asked : List Asking) → AskInOrder ask n keys asked → AskInOrder ask n (keys ++ more) asked
order_front ask n keys more [] o = tt
order_front ask n [] more (a ∷ asked) o = absurd o
order_front ask n (k ∷ keys) more (a ∷ asked) o = (o.0, order_front ask (n + 1) keys more asked o.1)

-- ---- a drop so far

pub removed_nothing : (pairs : List Asking) (notes : List Noting) (key : Parts) → Removed pairs pairs notes notes key []
removed_nothing pairs notes key = record { asked = []; pairs_are = sym (append-nil pairs); in_order = λ n. tt; each_done = refl; so_many = refl; notes_are = sym (append-nil notes) }

keys_next : (key : Parts) (sizes : List ℕ) (chunk : ℕ) → keys_dropped key (sizes ++ chunk ∷ []) ≡ keys_dropped key sizes ++ keys_of_layout key chunk
keys_next key sizes chunk = flat_map-append (keys_of_layout key) sizes (chunk ∷ []) ∙ ap (λ (l : List Parts). keys_dropped key sizes ++ l) (append-nil (keys_of_layout key chunk))

note_next : (key : Parts) (sizes : List ℕ) (chunk n behind : ℕ) → behind ≡ n + length (keys_dropped key (sizes ++ chunk ∷ []))
    → map (behind_more n) (drop_notes key 0 (sizes ++ chunk ∷ [])) ≡ map (behind_more n) (drop_notes key 0 sizes) ++ notes_none behind chunk
note_next key sizes chunk n behind e =
    ap (λ (l : List Noting). map (behind_more n) l) (notes_both key 0 sizes (chunk ∷ [])) ∙ map-append (behind_more n) (drop_notes key 0 sizes) (drop_notes key (0 + length (keys_dropped key sizes)) (chunk ∷ []))
    ∙ ap (λ (l : List Noting). map (behind_more n) (drop_notes key 0 sizes) ++ l) (by_test (chunk == 0))
  where
    place : n + (0 + length (keys_dropped key sizes) + length (keys_of_layout key chunk)) ≡ behind
    place = omega (arith, e, ap length (keys_next key sizes chunk), length-append (keys_dropped key sizes) (keys_of_layout key chunk))

    by_test : (t : Bool)
        → map (behind_more n) (if t then [] else record { chunk = chunk; count = 0; behind = 0 + length (keys_dropped key sizes) + length (keys_of_layout key chunk) } ∷ [])
        ≡ (if t then [] else record { chunk = chunk; count = 0; behind = behind } ∷ [])
    by_test true = refl
    by_test false = ap (λ (b : ℕ). record { chunk = chunk; count = 0; behind = b } ∷ []) place

pub removed_next : (a b c : List Asking) (notes later last : List Noting) (key : Parts) (sizes : List ℕ) (i : ℕ) → i < length sizes → Removed a b notes later key (take i sizes)
    → RoundAsks Q.Remove b c (keys_of_layout key (get_or sizes i 0)) (Ok None) → last ≡ later ++ notes_none (length c) (get_or sizes i 0) → Removed a c notes last key (take (i + 1) sizes)
removed_next a b c notes later last key sizes i h m r l = let P : List ℕ → Type 0 = λ s. Removed a c notes last key s in subst P (sym (take_next sizes i h)) more
  where
    pairs : c ≡ a ++ (m.asked ++ r.round)
    pairs = r.pairs_are ∙ ap (λ (p : List Asking). p ++ r.round) m.pairs_are ∙ append_assoc a m.asked r.round

    so_many : length (m.asked ++ r.round) ≡ length (keys_dropped key (take i sizes ++ get_or sizes i 0 ∷ []))
    so_many = length-append m.asked r.round
        ∙ omega (arith, m.so_many, r.ends.1, ap length (keys_next key (take i sizes) (get_or sizes i 0)), length-append (keys_dropped key (take i sizes)) (keys_of_layout key (get_or sizes i 0)))

    behind : length c ≡ length a + length (keys_dropped key (take i sizes ++ get_or sizes i 0 ∷ []))
    behind = ap length pairs ∙ length-append a (m.asked ++ r.round) ∙ omega (arith, so_many)

    more : Removed a c notes last key (take i sizes ++ get_or sizes i 0 ∷ [])
    more = record {
      asked = m.asked ++ r.round;
      pairs_are = pairs;
      in_order = λ n. rw (keys_next key (take i sizes) (get_or sizes i 0)) (order_both remove_request n (keys_dropped key (take i sizes)) (keys_of_layout key (get_or sizes i 0)) m.asked r.round m.so_many (m.in_order n) r.in_order);
      each_done = list_all-append is_done m.asked r.round ∙ rw (m.each_done, r.ends.0) refl;
      so_many = so_many;
      notes_are = l ∙ ap (λ (x : List Noting). x ++ notes_none (length c) (get_or sizes i 0)) m.notes_are
          ∙ append_assoc notes (map (behind_more (length a)) (drop_notes key 0 (take i sizes))) (notes_none (length c) (get_or sizes i 0))
          ∙ ap (λ (x : List Noting). notes ++ x) (sym (note_next key (take i sizes) (get_or sizes i 0) (length a) (length c) behind));
    }

pub removed_all : (a b : List Asking) (notes later : List Noting) (key : Parts) (sizes : List ℕ) (i : ℕ) → length sizes ≤ i → Removed a b notes later key (take i sizes) → Removed a b notes later key sizes
removed_all a b notes later key sizes i h m = let P : List ℕ → Type 0 = λ s. Removed a b notes later key s in subst P (take_all i sizes h) m

-- ---- runs

abbrev drop_task : List ℕ → List ℕ → Task
drop_task text file = record { work = W.Drop; key = text; file = file; name = []; onto = [] }

module _ (setup : Setup) (t : TaskTurn) (key : Parts) (text file : List ℕ) (layouts : List (ℕ × ℕ)) where
  going : (asked : List Asking) (noted : List Noting) (answer : Answer) → list_all goes_on asked ≡ true → DropAsks key (sizes_tried key layouts) asked noted
      → AnsweredBy [] answer (DropAnswers key (sizes_tried key layouts) asked answer) → RunOf setup t (drop_task text file) key layouts asked [] noted answer
  going asked noted answer g o h = record {
    asked_till_stop = all_take goes_on (length asked - 1) asked g;
    calls_till_stop = refl;
    found = refl;
    work = (o, refl);
    answered = rw (none_stops asked g) h;
  }

  stopped : (before : List Asking) (a : Asking) (noted : List Noting) (stop : Answer) → list_all goes_on before ≡ true → verdict_stop false a.verdict ≡ Some stop
      → DropAsks key (sizes_tried key layouts) (before ++ a ∷ []) noted → RunOf setup t (drop_task text file) key layouts (before ++ a ∷ []) [] noted stop
  stopped before a noted stop g s o = record {
    asked_till_stop = rw (but_last before a) g;
    calls_till_stop = refl;
    found = refl;
    work = (o, refl);
    answered = rw stops refl;
  }
    where
      stops : filter_map (λ (b : Asking). verdict_stop false b.verdict) (before ++ a ∷ []) ≡ stop ∷ []
      stops = filter_map-append (λ (b : Asking). verdict_stop false b.verdict) before (a ∷ []) ∙ rw (none_stops before g, s) refl

as_drop : (task : Task) → task.work ≡ W.Drop → nameless task ≡ drop_task task.key task.file
as_drop task e = ap (λ w. record { work = w; key = task.key; file = task.file; name = []; onto = [] }) e

done_not_failed : (v : Verdict) → is_done_at v ≡ true → failed_at v ≡ None
done_not_failed (Done at) e = refl
done_not_failed (Failed at) e = apart e
done_not_failed (Absent at) e = apart e
done_not_failed (Unknown at) e = apart e
done_not_failed (Unsupported at) e = apart e
done_not_failed (EndedAt why) e = apart e
done_not_failed Unsent e = apart e

none_failed : (asked : List Asking) → list_all is_done asked ≡ true → filter_map (λ (a : Asking). failed_at a.verdict) asked ≡ []
none_failed [] h = refl
none_failed (a ∷ more) h = by_test (is_done a) refl h (none_failed more)
  where
    by_test : (t : Bool) → is_done a ≡ t → (t && list_all is_done more) ≡ true → (list_all is_done more ≡ true → filter_map (λ (a : Asking). failed_at a.verdict) more ≡ [])
        → filter_map (λ (a : Asking). failed_at a.verdict) (a ∷ more) ≡ []
    by_test true e h next = rw (done_not_failed a.verdict e) (next h)
    by_test false e h next = apart h

-- how a verdict that isn't done ends a drop
abbrev EndsBy : Verdict → Answer → Type 0
EndsBy v answer = (verdict_stop false v ≡ Some answer) ⊎ ((verdict_stop false v ≡ None) × (failed_at v ≡ Some answer))

ends_by : (v : Verdict) (answer : Answer) → is_done_at v ≡ false → is_verdict_of (Remove []) v ≡ true → Some answer ≡ undone_answer v → EndsBy v answer
ends_by (Done at) answer d k e = apart (sym d)
ends_by (Failed at) answer d k e = inr (refl, sym e)
ends_by (Absent at) answer d k e = apart k
ends_by (Unknown at) answer d k e = apart k
ends_by (Unsupported at) answer d k e = inl (sym e)
ends_by (EndedAt why) answer d k e = inl (sym e)
ends_by Unsent answer d k e = inl (sym e)

finished : (answer : Answer) (Finished : Type 0) → Finished → AnsweredBy [] answer Finished
finished A.Memory Finished h = tt
finished answer Finished h = h

ran : (task : Task) (t : TaskTurn) (key : Parts) (layouts : List (ℕ × ℕ)) (before after asked : List Asking) (notes later noted : List Noting) (result : Result Answer NoMemory) → task.work ≡ W.Drop
    → key_reading task.key ≡ Some key → after ≡ before ++ asked → later ≡ notes ++ map (behind_more (length before)) noted
    → ((setup : Setup) → RunOf setup t (drop_task task.key task.file) key layouts asked [] noted (answered result)) → RanNoting task t layouts before after notes later result
ran task t key layouts before after asked notes later noted result w r p n h = record {
  asked = asked;
  noted = noted;
  pairs_are = p;
  notes_are = n;
  run = λ setup. let P : Task → Type 0 = λ j. TaskRun j t setup layouts asked [] noted (answered result) in
      with_names task t setup layouts asked [] noted (answered result) (ap has_name w)
      (subst P (sym (as_drop task w)) (let Q : Option Parts → Type 0 = λ o. IfSome o (λ k. RunOf setup t (drop_task task.key task.file) k layouts asked [] noted (answered result)) in subst Q (sym r) (h setup)));
}

-- what was asked of all layouts, and noted
all_asks : (key : Parts) (sizes : List ℕ) (asked : List Asking) → AskInOrder remove_request 1 (keys_dropped key sizes) asked → list_all is_done asked ≡ true → length asked ≡ length (keys_dropped key sizes)
    → DropAsks key sizes asked (drop_notes key 0 sizes)
all_asks key sizes asked o d l = record {
  in_order = o;
  each_done = all_take is_done (length asked - 1) asked d;
  notes = sym (take-length (drop_notes key 0 sizes));
  notes_late = notes_within key 0 (count_by is_done asked) sizes (omega (arith, l, count_all asked d));
  notes_soon = le_test _ _ (count_by-le-length (λ (note : Noting). nat_lt note.behind (length asked)) (drop_notes key 0 sizes));
}

-- what was asked of some layouts and noted, and of keys of the next one
some_asks : (key : Parts) (sizes done rest : List ℕ) (chunk : ℕ) → sizes ≡ done ++ chunk ∷ rest → (asked round : List Asking) → ((n : ℕ) → AskInOrder remove_request n (keys_dropped key done) asked)
    → list_all is_done asked ≡ true → length asked ≡ length (keys_dropped key done) → ((n : ℕ) → AskInOrder remove_request n (keys_of_layout key chunk) round)
    → list_all is_done (all_but_last (asked ++ round)) ≡ true → DropAsks key sizes (asked ++ round) (drop_notes key 0 done)
some_asks key sizes done rest chunk s asked round o d l r e = let P : List ℕ → Type 0 = λ z. DropAsks key z (asked ++ round) (drop_notes key 0 done) in subst P (sym s) record {
  in_order = rw (flat_map-append (keys_of_layout key) done (chunk ∷ rest))
      (order_both remove_request 1 (keys_dropped key done) (keys_of_layout key chunk ++ keys_dropped key rest) asked round l (o 1) (λ m. order_front remove_request m (keys_of_layout key chunk) (keys_dropped key rest) round (r m)));
  each_done = e;
  notes = sym (ap (λ (x : List Noting). take (length (drop_notes key 0 done)) x) both ∙ take-append_seam (drop_notes key 0 done) (drop_notes key (0 + length (keys_dropped key done)) (chunk ∷ rest)));
  notes_late = notes_within key 0 (count_by is_done (asked ++ round)) done (omega (arith, l, count_all asked d, counted));
  notes_soon = le_test _ _ (omega (arith, soon, later, count_by-le-length (λ (note : Noting). nat_lt note.behind (length (asked ++ round))) (drop_notes key 0 done)));
}
  where
    both : drop_notes key 0 (done ++ chunk ∷ rest) ≡ drop_notes key 0 done ++ drop_notes key (0 + length (keys_dropped key done)) (chunk ∷ rest)
    both = notes_both key 0 done (chunk ∷ rest)

    counted : count_by is_done (asked ++ round) ≡ count_by is_done asked + count_by is_done round
    counted = sum_by-append (λ (a : Asking). cond (is_done a) 1 0) asked round

    soon : count_by (λ (note : Noting). nat_lt note.behind (length (asked ++ round))) (drop_notes key 0 (done ++ chunk ∷ rest))
        ≡ count_by (λ (note : Noting). nat_lt note.behind (length (asked ++ round))) (drop_notes key 0 done)
        + count_by (λ (note : Noting). nat_lt note.behind (length (asked ++ round))) (drop_notes key (0 + length (keys_dropped key done)) (chunk ∷ rest))
    soon = ap (λ (x : List Noting). count_by (λ (note : Noting). nat_lt note.behind (length (asked ++ round))) x) both
        ∙ sum_by-append (λ (note : Noting). cond (nat_lt note.behind (length (asked ++ round))) 1 0) (drop_notes key 0 done) (drop_notes key (0 + length (keys_dropped key done)) (chunk ∷ rest))

    later : count_by (λ (note : Noting). nat_lt note.behind (length (asked ++ round))) (drop_notes key (0 + length (keys_dropped key done)) (chunk ∷ rest)) ≡ 0
    later = notes_later key (0 + length (keys_dropped key done)) (length (asked ++ round)) chunk rest (omega (arith, l, length-append asked round, order_fits remove_request 1 (keys_of_layout key chunk) round (r 1)))

module _ (task : Task) (t : TaskTurn) (key : Parts) (layouts : List (ℕ × ℕ)) (w : task.work ≡ W.Drop) (k : key_reading task.key ≡ Some key) where
  pub drop_nothing : (pairs : List Asking) (notes : List Noting) (e : NoMemory) → RanNoting task t layouts pairs pairs notes notes (Err e)
  drop_nothing pairs notes e =
      ran task t key layouts pairs pairs [] notes notes [] (Err e) w k (sym (append-nil pairs)) (sym (append-nil notes))
      (λ setup. going setup t key task.key task.file layouts [] [] A.Memory refl (nothing_asked (sizes_tried key layouts)) tt)
    where
      nothing_asked : (sizes : List ℕ) → DropAsks key sizes [] []
      nothing_asked sizes = record { in_order = tt; each_done = refl; notes = refl; notes_late = refl; notes_soon = le_test _ _ (omega (arith, none_before (drop_notes key 0 sizes))) }
        where
          none_before : (notes : List Noting) → count_by (λ (note : Noting). nat_lt note.behind 0) notes ≡ 0
          none_before [] = refl
          none_before (note ∷ more) = sum_by-cons (λ (note : Noting). cond (nat_lt note.behind 0) 1 0) note more ∙ rw (never note.behind) (omega (arith, none_before more))
            where
              never : (n : ℕ) → nat_lt n 0 ≡ false
              never n = grind (arith, nat_tests)

  pub drop_all : (a b : List Asking) (notes later : List Noting) (sizes : List ℕ) → sizes ≡ sizes_tried key layouts → Removed a b notes later key sizes → RanNoting task t layouts a b notes later (Ok A.Dropped)
  drop_all a b notes later sizes s m =
      ran task t key layouts a b m.asked notes later (drop_notes key 0 sizes) (Ok A.Dropped) w k m.pairs_are m.notes_are
      (λ setup. let P : List ℕ → Type 0 = λ z. DropAsks key z m.asked (drop_notes key 0 sizes) in
      let R : List ℕ → Type 0 = λ z. DropAnswers key z m.asked A.Dropped in
      going setup t key task.key task.file layouts m.asked (drop_notes key 0 sizes) A.Dropped (all_done_go_on m.asked m.each_done)
      (subst P s (all_asks key sizes m.asked (m.in_order 1) m.each_done m.so_many))
      (subst R s (record { dropped = rw (eq-eqb (count_by is_done m.asked) (length (keys_dropped key sizes)) (count_all m.asked m.each_done ∙ m.so_many)) refl })))

  module _ (sizes done rest : List ℕ) (chunk : ℕ) (s : sizes ≡ sizes_tried key layouts) (d : sizes ≡ done ++ chunk ∷ rest) (a b c : List Asking) (notes later : List Noting)
      (m : Removed a b notes later key done) where
    asks : (round : List Asking) → ((n : ℕ) → AskInOrder remove_request n (keys_of_layout key chunk) round) → list_all is_done (all_but_last (m.asked ++ round)) ≡ true
        → DropAsks key (sizes_tried key layouts) (m.asked ++ round) (drop_notes key 0 done)
    asks round o e = some_asks key (sizes_tried key layouts) done rest chunk (sym s ∙ d) m.asked round m.in_order m.each_done m.so_many o e

    all_pairs : (round : List Asking) → c ≡ b ++ round → c ≡ a ++ (m.asked ++ round)
    all_pairs round e = e ∙ ap (λ (p : List Asking). p ++ round) m.pairs_are ∙ append_assoc a m.asked round

    short : (e : NoMemory) (round : List Asking) → c ≡ b ++ round → ((n : ℕ) → AskInOrder remove_request n (keys_of_layout key chunk) round) → list_all is_done round ≡ true → RanNoting task t layouts a c notes later (Err e)
    short e round p o q =
        let all : list_all is_done (m.asked ++ round) ≡ true = list_all-append is_done m.asked round ∙ rw (m.each_done, q) refl in
        ran task t key layouts a c (m.asked ++ round) notes later (drop_notes key 0 done) (Err e) w k (all_pairs round p) m.notes_are
        (λ setup. going setup t key task.key task.file layouts (m.asked ++ round) (drop_notes key 0 done) A.Memory (all_done_go_on (m.asked ++ round) all)
        (asks round o (all_take is_done (length (m.asked ++ round) - 1) (m.asked ++ round) all)) tt)

    pub drop_short : (e : NoMemory) → RoundAsks Q.Remove b c (keys_of_layout key chunk) (Err e) → RanNoting task t layouts a c notes later (Err e)
    drop_short e r = short e r.round r.pairs_are r.in_order r.ends

    -- its keys are removed, and the note found no memory
    pub drop_unnoted : (e : NoMemory) → RoundAsks Q.Remove b c (keys_of_layout key chunk) (Ok None) → RanNoting task t layouts a c notes later (Err e)
    drop_unnoted e r = short e r.round r.pairs_are r.in_order r.ends.0

    pub drop_ended : (v : Verdict) (answer : Answer) → RoundAsks Q.Remove b c (keys_of_layout key chunk) (Ok (Some v)) → Some answer ≡ undone_answer v → RanNoting task t layouts a c notes later (Ok answer)
    drop_ended v answer r e =
        ran task t key layouts a c ((m.asked ++ r.ends.0) ++ r.ends.1 ∷ []) notes later (drop_notes key 0 done) (Ok answer) w k
        (all_pairs r.round r.pairs_are ∙ ap (λ (x : List Asking). a ++ (m.asked ++ x)) r.ends.2 ∙ ap (λ (x : List Asking). a ++ x) (sym joint)) m.notes_are
        (λ setup. by_end setup (ends_by v answer r.ends.5 r.ends.6 e))
      where
        joint : (m.asked ++ r.ends.0) ++ r.ends.1 ∷ [] ≡ m.asked ++ (r.ends.0 ++ r.ends.1 ∷ [])
        joint = append_assoc m.asked r.ends.0 (r.ends.1 ∷ [])

        front : list_all is_done (m.asked ++ r.ends.0) ≡ true
        front = list_all-append is_done m.asked r.ends.0 ∙ rw (m.each_done, r.ends.3) refl

        order : (n : ℕ) → AskInOrder remove_request n (keys_of_layout key chunk) (r.ends.0 ++ r.ends.1 ∷ [])
        order n = rw r.ends.2 at (r.in_order n)

        before : list_all is_done (all_but_last (m.asked ++ (r.ends.0 ++ r.ends.1 ∷ []))) ≡ true
        before = rw (← joint) (rw (but_last (m.asked ++ r.ends.0) r.ends.1) front)

        asked : DropAsks key (sizes_tried key layouts) ((m.asked ++ r.ends.0) ++ r.ends.1 ∷ []) (drop_notes key 0 done)
        asked = rw joint (asks (r.ends.0 ++ r.ends.1 ∷ []) order before)

        not_done : is_done r.ends.1 ≡ false
        not_done = ap is_done_at r.ends.4 ∙ r.ends.5

        fewer : (count_by is_done ((m.asked ++ r.ends.0) ++ r.ends.1 ∷ []) == length (keys_dropped key (sizes_tried key layouts))) ≡ false
        fewer = not_equal _ _ (λ x. absurd (omega (arith, x, counted, one, count_all (m.asked ++ r.ends.0) front, length-append (m.asked ++ r.ends.0) (r.ends.1 ∷ []), fits)))
          where
            counted : count_by is_done ((m.asked ++ r.ends.0) ++ r.ends.1 ∷ []) ≡ count_by is_done (m.asked ++ r.ends.0) + count_by is_done (r.ends.1 ∷ [])
            counted = sum_by-append (λ (a : Asking). cond (is_done a) 1 0) (m.asked ++ r.ends.0) (r.ends.1 ∷ [])

            one : count_by is_done (r.ends.1 ∷ []) ≡ 0
            one = rw not_done refl

            fits : length ((m.asked ++ r.ends.0) ++ r.ends.1 ∷ []) ≤ length (keys_dropped key (sizes_tried key layouts))
            fits = order_fits remove_request 1 (keys_dropped key (sizes_tried key layouts)) ((m.asked ++ r.ends.0) ++ r.ends.1 ∷ []) asked.in_order

        on_to : verdict_stop false v ≡ None → list_all goes_on ((m.asked ++ r.ends.0) ++ r.ends.1 ∷ []) ≡ true
        on_to n = list_all-append goes_on (m.asked ++ r.ends.0) (r.ends.1 ∷ []) ∙ rw (all_done_go_on (m.asked ++ r.ends.0) front, r.ends.4, n) refl

        failed_last : failed_at v ≡ Some answer → last_failed ((m.asked ++ r.ends.0) ++ r.ends.1 ∷ []) ≡ Some answer
        failed_last f =
            let says : filter_map (λ (a : Asking). failed_at a.verdict) ((m.asked ++ r.ends.0) ++ r.ends.1 ∷ []) ≡ answer ∷ [] =
            filter_map-append (λ (a : Asking). failed_at a.verdict) (m.asked ++ r.ends.0) (r.ends.1 ∷ []) ∙ rw (none_failed (m.asked ++ r.ends.0) front, r.ends.4, f) refl in
            ap (λ (x : List Answer). last_or None x) says

        by_end : (setup : Setup) → EndsBy v answer → RunOf setup t (drop_task task.key task.file) key layouts ((m.asked ++ r.ends.0) ++ r.ends.1 ∷ []) [] (drop_notes key 0 done) answer
        by_end setup (inl stop) =
            stopped setup t key task.key task.file layouts (m.asked ++ r.ends.0) r.ends.1 (drop_notes key 0 done) answer (all_done_go_on (m.asked ++ r.ends.0) front) (ap (λ (x : Verdict). verdict_stop false x) r.ends.4 ∙ stop) asked
        by_end setup (inr failed) =
            going setup t key task.key task.file layouts ((m.asked ++ r.ends.0) ++ r.ends.1 ∷ []) (drop_notes key 0 done) answer
            (on_to failed.0) asked
            (finished answer _ (record { dropped = rw fewer (failed_last failed.1) }))

pub quiet_drop : (v : Verdict) (answer : Answer) → Some answer ≡ undone_answer v → may_follow_refusal (Ok answer) ≡ false
quiet_drop (Done at) answer e = cc
quiet_drop (Failed at) answer e = let h : answer ≡ A.Failed at = cc in rw h refl
quiet_drop (Absent at) answer e = cc
quiet_drop (Unknown at) answer e = cc
quiet_drop (Unsupported at) answer e = let h : answer ≡ A.Unsupported = cc in rw h refl
quiet_drop (EndedAt why) answer e = let h : answer ≡ A.Ended why = cc in rw h refl
quiet_drop Unsent answer e = let h : answer ≡ A.Unsent = cc in rw h refl
