-- Runs of checks, layout by layout.
use Rattle.std.proofs.Common.{◌≡◌, ◌∙◌, ℕ, ◌+◌, ◌-◌, ◌<◌, ◌≤◌, List, [], ◌∷◌, ◌++◌, length, map, take, drop, get_or, refl, sym, ap, subst, arith, append_assoc, append-nil, length-append, add-one}
use Rattle.std.specs.Prelude.{Bool, true, false, ◌&&◌, ◌||◌, ◌==◌, not, Option, Some, None, IfSome, Result, Ok, Err, unwrap_or, is_none, is_some, count_by, cond}
use Rattle.std.specs.List.{list_all, list_any, filter_map, zip, cons_option}
use Rattle.std.proofs.lemmas.List.Folds.{list_all-append}
use Rattle.std.proofs.lemmas.List.Elements.{filter_map-append}
use Rattle.std.proofs.Math.Seq.{drop-cons, take-suc}
use Rattle.std.proofs.lemmas.List.{map-append, take-append-drop, take_all}
use Rattle.std.proofs.lemmas.Bool.{eq-eqb}
use Rattle.std.proofs.lemmas.List.Sums.{sum_by-append, sum_by-cons}
use Rattle.ann_key.specs.Keys.{Parts, key_reading}
use Rattle.ann_key.specs.declared.bytes.NoMemory.{NoMemory}
use Rattle.journal_model.specs.declared.verdict.Verdict.{Verdict}
use Rattle.journal_model.specs.declared.verdict.Verdict.TheVariants.{Done, Failed, Absent, Unknown, Unsupported, Ended as EndedAt, Unsent}
use Rattle.journal_model.specs.declared.answer.Answer.{Answer}
use Rattle.journal_model.specs.declared.answer.Answer.TheVariants as A
use Rattle.task_text.specs.declared.task.Task.{Task}
use Rattle.task_text.specs.declared.task.Work.TheVariants as W
use Rattle.task_model.specs.Askers.{Asking}
use Rattle.task_model.specs.declared.setup.Setup.{Setup}
use Rattle.task_model.specs.declared.turn.TaskTurn.{TaskTurn}
use Rattle.task_run.specs.declared.layouts.Query.TheVariants as Q
use Rattle.task_model.specs.Stops.{is_done, is_done_at, verdict_stop, AnsweredBy}
use Rattle.task_model.specs.Layouts.{chunk_sizes, keys_of_layout, layouts_tried, sizes_tried}
use Rattle.task_model.specs.Requests.{AskInOrder, rounds, RoundsAsk}
use Rattle.task_model.specs.Checks.{present_request, is_there, unknown_at, not_there, first_or, CheckAnswers}
use Rattle.task_model.specs.Runs.{RunOf, TaskRun}
use Rattle.task_model.specs.Ran.{RanAsking, answered, may_follow_refusal}
use Rattle.task_model.specs.TaskRuns.{check_answer}
use Rattle.task_run.specs.Rounds.{RoundAsks, joined, Ended, EachEnded, Missed, missing_more}
use Rattle.task_run.proofs.RoundLaws.{length_keys, some_keys}
use Rattle.task_model.proofs.NamedRuns.{nameless, with_names}
use Rattle.task_text.specs.Works.{has_name}
use Rattle.task_run.proofs.GetLemmas.AskLaws.{round_done as rounds_found}
use Rattle.task_model.proofs.Lists.{all_taken as all_take, but_last}
use Rattle.ann_key.proofs.Booleans.{false_is_true as apart}

-- ---- askings that end nothing

abbrev pub goes_on : Asking → Bool
goes_on a = is_none (verdict_stop false a.verdict)

done_goes_on : (v : Verdict) → is_done_at v ≡ true → is_none (verdict_stop false v) ≡ true
done_goes_on (Done at) e = refl
done_goes_on (Failed at) e = refl
done_goes_on (Absent at) e = refl
done_goes_on (Unknown at) e = refl
done_goes_on (Unsupported at) e = apart e
done_goes_on (EndedAt why) e = apart e
done_goes_on Unsent e = apart e

pub all_done_go_on : (asked : List Asking) → list_all is_done asked ≡ true → list_all goes_on asked ≡ true
all_done_go_on [] h = refl
all_done_go_on (a ∷ more) h = by_test (is_done a) refl h (all_done_go_on more)
  where
    by_test : (t : Bool) → is_done a ≡ t → (t && list_all is_done more) ≡ true → (list_all is_done more ≡ true → list_all goes_on more ≡ true) → list_all goes_on (a ∷ more) ≡ true
    by_test true e h next = rw (done_goes_on a.verdict e, next h) refl
    by_test false e h next = apart h

-- what goes on is stopped by none
pub none_stops : (asked : List Asking) → list_all goes_on asked ≡ true → filter_map (λ (a : Asking). verdict_stop false a.verdict) asked ≡ []
none_stops [] h = refl
none_stops (a ∷ more) h = by_stop (verdict_stop false a.verdict) h (none_stops more)
  where
    by_stop : (o : Option Answer) → (is_none o && list_all goes_on more) ≡ true → (list_all goes_on more ≡ true → filter_map (λ (a : Asking). verdict_stop false a.verdict) more ≡ [])
        → cons_option o (filter_map (λ (a : Asking). verdict_stop false a.verdict) more) ≡ []
    by_stop None h next = next h
    by_stop (Some s) h next = apart h

-- ---- rounds put together

rounds_ended : (front : List Asking) (a : Asking) (rest : List Asking) → list_all is_done front ≡ true → is_done a ≡ false → rounds (front ++ a ∷ rest) ≡ (front ++ a ∷ []) ∷ rounds rest
rounds_ended [] a rest h k = rw k refl
rounds_ended (b ∷ front) a rest h k = by_test (is_done b) refl (λ more. rounds_ended front a rest more k)
  where
    by_test : (t : Bool) → is_done b ≡ t → (list_all is_done front ≡ true → rounds (front ++ a ∷ rest) ≡ (front ++ a ∷ []) ∷ rounds rest)
        → rounds (b ∷ (front ++ a ∷ rest)) ≡ (b ∷ (front ++ a ∷ [])) ∷ rounds rest
    by_test true e next = rw e (rw (next (rw e at h)) refl)
    by_test false e next = apart (rw e at h)

one_round : (round rest : List Asking) → Ended round → rounds (round ++ rest) ≡ round ∷ rounds rest
one_round round rest e =
    let P : List Asking → Type 0 = λ r. rounds (r ++ rest) ≡ r ∷ rounds rest in
    subst P (sym e.is) (ap rounds (append_assoc e.front (e.last ∷ []) rest) ∙ rounds_ended e.front e.last rest e.done e.not_done)

rounds_joined : (past : List (List Asking)) (rest : List Asking) → EachEnded past → rounds (joined past ++ rest) ≡ past ++ rounds rest
rounds_joined [] rest h = refl
rounds_joined (round ∷ more) rest h =
    ap rounds (append_assoc round (joined more) rest) ∙ one_round round (joined more ++ rest) h.0 ∙ ap (λ (rs : List (List Asking)). round ∷ rs) (rounds_joined more rest h.1)

-- ---- no layout of these is there

all_but_one : (front : List Asking) (a : Asking) → is_done a ≡ false → list_all is_done (front ++ a ∷ []) ≡ false
all_but_one [] a e = rw e refl
all_but_one (b ∷ front) a e = rw (all_but_one front a e) (and_false (is_done b))
  where
    and_false : (t : Bool) → (t && false) ≡ false
    and_false true = refl
    and_false false = refl

not_there_one : (keys : List Parts) (round : List Asking) → Ended round → is_there (keys, round) ≡ false
not_there_one keys round e =
    let n : list_all is_done round ≡ false = ap (λ (r : List Asking). list_all is_done r) e.is ∙ all_but_one e.front e.last e.not_done in
    rw n (and_false (length round == length keys))
  where
    and_false : (t : Bool) → (t && false) ≡ false
    and_false true = refl
    and_false false = refl

none_there : (layouts : List (List Parts)) (past : List (List Asking)) → EachEnded past → list_any is_there (zip layouts past) ≡ false
none_there [] past h = refl
none_there (keys ∷ layouts) [] h = refl
none_there (keys ∷ layouts) (round ∷ past) h = rw (not_there_one keys round h.0, none_there layouts past h.1) refl

there_at : (layouts : List (List Parts)) (past : List (List Asking)) (keys : List Parts) (more : List (List Parts)) (round : List Asking) → length past ≡ length layouts → is_there (keys, round) ≡ true
    → list_any is_there (zip (layouts ++ keys ∷ more) (past ++ round ∷ [])) ≡ true
there_at [] [] keys more round e h = rw h refl
there_at [] (p ∷ past) keys more round e h = absurd (omega arith)
there_at (k ∷ layouts) [] keys more round e h = absurd (omega arith)
there_at (k ∷ layouts) (p ∷ past) keys more round e h = rw (there_at layouts past keys more round (omega arith) h) (or_true (is_there (k, p)))
  where
    or_true : (t : Bool) → (t || true) ≡ true
    or_true true = refl
    or_true false = refl

-- ---- one of each round isn't done

abbrev not_done : Asking → Bool
not_done a = not (is_done a)

count_done : (asked : List Asking) → list_all is_done asked ≡ true → count_by not_done asked ≡ 0
count_done [] h = refl
count_done (a ∷ more) h = sum_by-cons (λ (a : Asking). cond (not_done a) 1 0) a more ∙ by_test (is_done a) h (count_done more)
  where
    by_test : (t : Bool) → (t && list_all is_done more) ≡ true → (list_all is_done more ≡ true → count_by not_done more ≡ 0) → cond (not t) 1 0 + count_by not_done more ≡ 0
    by_test true h next = omega (arith, next h)
    by_test false h next = apart h

count_one : (round : List Asking) → Ended round → count_by not_done round ≡ 1
count_one round e =
    let one : count_by not_done (e.last ∷ []) ≡ 1 = rw e.not_done refl in
    let zero_of : count_by not_done e.front ≡ 0 = count_done e.front e.done in
    let both : count_by not_done (e.front ++ e.last ∷ []) ≡ count_by not_done e.front + count_by not_done (e.last ∷ []) = sum_by-append (λ (a : Asking). cond (not_done a) 1 0) e.front (e.last ∷ []) in
    ap (λ (r : List Asking). count_by not_done r) e.is ∙ both ∙ omega (arith, one, zero_of)

count_each : (past : List (List Asking)) → EachEnded past → count_by not_done (joined past) ≡ length past
count_each [] h = refl
count_each (round ∷ more) h =
    let one : count_by not_done round ≡ 1 = count_one round h.0 in
    let next : count_by not_done (joined more) ≡ length more = count_each more h.1 in
    sum_by-append (λ (a : Asking). cond (not_done a) 1 0) round (joined more) ∙ omega (arith, one, next)

-- ---- what is answered where none is there

done_says : (v : Verdict) → is_done_at v ≡ true → unknown_at v ≡ None
done_says (Done at) e = refl
done_says (Failed at) e = apart e
done_says (Absent at) e = apart e
done_says (Unknown at) e = apart e
done_says (Unsupported at) e = apart e
done_says (EndedAt why) e = apart e
done_says Unsent e = apart e

abbrev said : List Asking → List Answer
said asked = filter_map (λ (a : Asking). unknown_at a.verdict) asked

done_say : (asked : List Asking) → list_all is_done asked ≡ true → said asked ≡ []
done_say [] h = refl
done_say (a ∷ more) h = by_test (is_done a) refl h (done_say more)
  where
    by_test : (t : Bool) → is_done a ≡ t → (t && list_all is_done more) ≡ true → (list_all is_done more ≡ true → said more ≡ []) → said (a ∷ more) ≡ []
    by_test true e h next = rw (done_says a.verdict e) (next h)
    by_test false e h next = apart h

first_says : (xs : List Asking) (v : Verdict) → first_or A.Absent (said xs ++ cons_option (unknown_at v) []) ≡ missing_more (first_or A.Absent (said xs)) v
first_says [] v = by_says (unknown_at v)
  where
    by_says : (o : Option Answer) → first_or A.Absent (cons_option o []) ≡ unwrap_or o A.Absent
    by_says None = refl
    by_says (Some answer) = refl
first_says (x ∷ xs) v = by_verdict x.verdict (first_says xs v)
  where
    by_verdict : (w : Verdict) → first_or A.Absent (said xs ++ cons_option (unknown_at v) []) ≡ missing_more (first_or A.Absent (said xs)) v
        → first_or A.Absent (cons_option (unknown_at w) (said xs) ++ cons_option (unknown_at v) []) ≡ missing_more (first_or A.Absent (cons_option (unknown_at w) (said xs))) v
    by_verdict (Done at) next = next
    by_verdict (Failed at) next = next
    by_verdict (Absent at) next = next
    by_verdict (Unknown at) next = refl
    by_verdict (Unsupported at) next = next
    by_verdict (EndedAt why) next = next
    by_verdict Unsent next = next

not_there_more : (xs front : List Asking) (a : Asking) → list_all is_done front ≡ true → not_there (xs ++ (front ++ a ∷ [])) ≡ missing_more (not_there xs) a.verdict
not_there_more xs front a h =
    let split : said (xs ++ (front ++ a ∷ [])) ≡ said xs ++ said (a ∷ []) =
    filter_map-append (λ (a : Asking). unknown_at a.verdict) xs (front ++ a ∷ [])
    ∙ ap (λ (s : List Answer). said xs ++ s) (filter_map-append (λ (a : Asking). unknown_at a.verdict) front (a ∷ []) ∙ ap (λ (s : List Answer). s ++ said (a ∷ [])) (done_say front h)) in
    ap (λ (s : List Answer). first_or A.Absent s) split ∙ first_says xs a.verdict

-- ---- more rounds

joined_more : (past : List (List Asking)) (round : List Asking) → joined (past ++ round ∷ []) ≡ joined past ++ round
joined_more [] round = append-nil round
joined_more (p ∷ past) round = ap (λ (r : List Asking). p ++ r) (joined_more past round) ∙ sym (append_assoc p (joined past) round)

each_more : (past : List (List Asking)) (round : List Asking) → EachEnded past → Ended round → EachEnded (past ++ round ∷ [])
each_more [] round h e = (e, tt)
each_more (p ∷ past) round h e = (h.0, each_more past round h.1 e)

asks_more : (n : ℕ) (layouts : List (List Parts)) (past : List (List Asking)) (keys : List Parts) (more : List (List Parts)) (round : List Asking) → length past ≡ length layouts
    → RoundsAsk present_request n layouts past → ((m : ℕ) → AskInOrder present_request m keys round) → RoundsAsk present_request n (layouts ++ keys ∷ more) (past ++ round ∷ [])
asks_more n [] [] keys more round e o h = (h n, tt)
asks_more n [] (p ∷ past) keys more round e o h = absurd (omega arith)
asks_more n (k ∷ layouts) [] keys more round e o h = absurd (omega arith)
asks_more n (k ∷ layouts) (p ∷ past) keys more round e o h = (o.0, asks_more (n + length p) layouts past keys more round (omega arith) o.1 h)

asks_front : (n : ℕ) (layouts more : List (List Parts)) (past : List (List Asking)) → RoundsAsk present_request n layouts past → RoundsAsk present_request n (layouts ++ more) past
asks_front n layouts more [] o = tt
asks_front n [] more (p ∷ past) o = absurd o
asks_front n (k ∷ layouts) more (p ∷ past) o = (o.0, asks_front (n + length p) layouts more past o.1)

round_goes_on : (round : List Asking) → Ended round → list_all goes_on round ≡ true
round_goes_on round e =
    let P : List Asking → Type 0 = λ r. list_all goes_on r ≡ true in
    subst P (sym e.is) (list_all-append goes_on e.front (e.last ∷ []) ∙ rw (all_done_go_on e.front e.done, e.goes_on) refl)

each_goes_on : (past : List (List Asking)) → EachEnded past → list_all goes_on (joined past) ≡ true
each_goes_on [] h = refl
each_goes_on (round ∷ more) h = list_all-append goes_on round (joined more) ∙ rw (round_goes_on round h.0, each_goes_on more h.1) refl

-- ---- a check so far

pub missed_nothing : (pairs : List Asking) → Missed pairs pairs [] A.Absent
missed_nothing pairs = record { past = []; pairs_are = sym (append-nil pairs); each = tt; so_many = refl; in_order = tt; missing_is = refl }

module _ (a b c : List Asking) (layouts : List (List Parts)) (keys : List Parts) (missing : Answer) (v : Verdict) (m : Missed a b layouts missing) (r : RoundAsks Q.Present b c keys (Ok (Some v))) where
  pub missed_more : is_some (verdict_stop false v) ≡ false → Missed a c (layouts ++ keys ∷ []) (missing_more missing v)
  missed_more s = record {
    past = m.past ++ r.round ∷ [];
    pairs_are = r.pairs_are ∙ ap (λ (p : List Asking). p ++ r.round) m.pairs_are ∙ append_assoc a (joined m.past) r.round ∙ ap (λ (p : List Asking). a ++ p) (sym (joined_more m.past r.round));
    each = each_more m.past r.round m.each ended;
    so_many = length-append m.past (r.round ∷ []) ∙ omega (arith, m.so_many, length-append layouts (keys ∷ []));
    in_order = asks_more 1 layouts m.past keys [] r.round m.so_many m.in_order r.in_order;
    missing_is = ap (λ (w : Answer). missing_more w v) m.missing_is ∙ sym says;
  }
    where
      ended : Ended r.round
      ended = record { front = r.ends.0; last = r.ends.1; is = r.ends.2; done = r.ends.3; not_done = ap is_done_at r.ends.4 ∙ r.ends.5; goes_on = none_of (verdict_stop false r.ends.1.verdict) (ap (λ (w : Verdict). is_some (verdict_stop false w)) r.ends.4 ∙ s) }
        where
          none_of : (o : Option Answer) → is_some o ≡ false → o ≡ None
          none_of None e = refl
          none_of (Some x) e = apart (sym e)

      says : not_there (joined (m.past ++ r.round ∷ [])) ≡ missing_more (not_there (joined m.past)) v
      says =
          ap not_there (joined_more m.past r.round ∙ ap (λ (x : List Asking). joined m.past ++ x) r.ends.2)
          ∙ not_there_more (joined m.past) r.ends.0 r.ends.1 r.ends.3 ∙ ap (λ (w : Verdict). missing_more (not_there (joined m.past)) w) r.ends.4

stop_answers : (v : Verdict) → is_some (verdict_stop false v) ≡ true → verdict_stop false v ≡ check_answer v
stop_answers (Done at) e = apart e
stop_answers (Failed at) e = apart e
stop_answers (Absent at) e = apart e
stop_answers (Unknown at) e = apart e
stop_answers (Unsupported at) e = refl
stop_answers (EndedAt why) e = refl
stop_answers Unsent e = refl

-- ---- runs

abbrev check_task : List ℕ → List ℕ → Task
check_task text file = record { work = W.Check; key = text; file = file; name = []; onto = [] }

module _ (setup : Setup) (t : TaskTurn) (key : Parts) (text file : List ℕ) (layouts : List (ℕ × ℕ)) where
  going : (asked : List Asking) (answer : Answer) → list_all goes_on asked ≡ true → RoundsAsk present_request 1 (layouts_tried key layouts) (rounds asked)
      → AnsweredBy [] answer (CheckAnswers (layouts_tried key layouts) asked answer) → RunOf setup t (check_task text file) key layouts asked [] [] answer
  going asked answer g o h = record {
    asked_till_stop = all_take goes_on (length asked - 1) asked g;
    calls_till_stop = refl;
    found = refl;
    work = (record { in_order = o }, refl, refl);
    answered = rw (none_stops asked g) h;
  }

  stopped : (before : List Asking) (a : Asking) (stop : Answer) → list_all goes_on before ≡ true → verdict_stop false a.verdict ≡ Some stop
      → RoundsAsk present_request 1 (layouts_tried key layouts) (rounds (before ++ a ∷ [])) → RunOf setup t (check_task text file) key layouts (before ++ a ∷ []) [] [] stop
  stopped before a stop g s o = record {
    asked_till_stop = rw (but_last before a) g;
    calls_till_stop = refl;
    found = refl;
    work = (record { in_order = o }, refl, refl);
    answered = rw stops refl;
  }
    where
      stops : filter_map (λ (b : Asking). verdict_stop false b.verdict) (before ++ a ∷ []) ≡ stop ∷ []
      stops = filter_map-append (λ (b : Asking). verdict_stop false b.verdict) before (a ∷ []) ∙ rw (none_stops before g, s) refl

as_check : (task : Task) → task.work ≡ W.Check → nameless task ≡ check_task task.key task.file
as_check task e = ap (λ w. record { work = w; key = task.key; file = task.file; name = []; onto = [] }) e

ran : (task : Task) (t : TaskTurn) (key : Parts) (layouts : List (ℕ × ℕ)) (before after asked : List Asking) (result : Result Answer NoMemory) → task.work ≡ W.Check → key_reading task.key ≡ Some key
    → after ≡ before ++ asked → ((setup : Setup) → RunOf setup t (check_task task.key task.file) key layouts asked [] [] (answered result)) → RanAsking task t layouts before after result
ran task t key layouts before after asked result w r p h = record {
  asked = asked;
  pairs_are = p;
  run = λ setup. let P : Task → Type 0 = λ j. TaskRun j t setup layouts asked [] [] (answered result) in
      with_names task t setup layouts asked [] [] (answered result) (ap has_name w)
      (subst P (sym (as_check task w)) (let Q : Option Parts → Type 0 = λ o. IfSome o (λ k. RunOf setup t (check_task task.key task.file) k layouts asked [] [] (answered result)) in subst Q (sym r) (h setup)));
}

module _ (task : Task) (t : TaskTurn) (key : Parts) (layouts : List (ℕ × ℕ)) (w : task.work ≡ W.Check) (k : key_reading task.key ≡ Some key) where
  pub check_nothing : (pairs : List Asking) (e : NoMemory) → RanAsking task t layouts pairs pairs (Err e)
  check_nothing pairs e = ran task t key layouts pairs pairs [] (Err e) w k (sym (append-nil pairs)) (λ setup. going setup t key task.key task.file layouts [] A.Memory refl tt tt)

  pub check_missed : (a b : List Asking) (sizes : List ℕ) (missing : Answer) → sizes ≡ sizes_tried key layouts → Missed a b (map (keys_of_layout key) sizes) missing → RanAsking task t layouts a b (Ok missing)
  check_missed a b sizes missing s m =
      ran task t key layouts a b (joined m.past) (Ok missing) w k m.pairs_are
      (λ setup. going setup t key task.key task.file layouts (joined m.past) missing (each_goes_on m.past m.each) (rw all_rounds m_order) (by_answer missing answers))
    where
      all_rounds : rounds (joined m.past) ≡ m.past
      all_rounds = ap rounds (sym (append-nil (joined m.past))) ∙ rounds_joined m.past [] m.each ∙ append-nil m.past

      m_order : RoundsAsk present_request 1 (layouts_tried key layouts) m.past
      m_order = rw s at m.in_order

      tries : length (map (keys_of_layout key) sizes) ≡ length (layouts_tried key layouts)
      tries = ap (λ (l : List ℕ). length (map (keys_of_layout key) l)) s

      answers : CheckAnswers (layouts_tried key layouts) (joined m.past) missing
      answers = record { found = rw (all_rounds, none_there (layouts_tried key layouts) m.past m.each) (count_each m.past m.each ∙ m.so_many ∙ tries, m.missing_is) }

      by_answer : (answer : Answer) → CheckAnswers (layouts_tried key layouts) (joined m.past) answer → AnsweredBy [] answer (CheckAnswers (layouts_tried key layouts) (joined m.past) answer)
      by_answer A.Memory h = tt
      by_answer answer h = h

  -- the layouts that are tried, where one of them is next
  module _ (sizes done rest : List ℕ) (chunk : ℕ) (s : sizes ≡ sizes_tried key layouts) (d : sizes ≡ done ++ chunk ∷ rest) (a b c : List Asking) (missing : Answer)
      (m : Missed a b (map (keys_of_layout key) done) missing) where
    tried : layouts_tried key layouts ≡ map (keys_of_layout key) done ++ keys_of_layout key chunk ∷ map (keys_of_layout key) rest
    tried = ap (λ (l : List ℕ). map (keys_of_layout key) l) (sym s ∙ d) ∙ map-append (keys_of_layout key) done (chunk ∷ rest)

    all_pairs : (round : List Asking) → c ≡ b ++ round → c ≡ a ++ (joined m.past ++ round)
    all_pairs round e = e ∙ ap (λ (p : List Asking). p ++ round) m.pairs_are ∙ append_assoc a (joined m.past) round

    go_on : (round : List Asking) → list_all is_done round ≡ true → list_all goes_on (joined m.past ++ round) ≡ true
    go_on round e = list_all-append goes_on (joined m.past) round ∙ rw (each_goes_on m.past m.each, all_done_go_on round e) refl

    with_round : (round : List Asking) → ((n : ℕ) → AskInOrder present_request n (keys_of_layout key chunk) round) → RoundsAsk present_request 1 (layouts_tried key layouts) (m.past ++ round ∷ [])
    with_round round o = rw tried (asks_more 1 (map (keys_of_layout key) done) m.past (keys_of_layout key chunk) (map (keys_of_layout key) rest) round m.so_many m.in_order o)

    in_rounds : (round : List Asking) → ((n : ℕ) → AskInOrder present_request n (keys_of_layout key chunk) round) → list_all is_done round ≡ true
        → RoundsAsk present_request 1 (layouts_tried key layouts) (rounds (joined m.past ++ round))
    in_rounds [] o e = rw (rounds_joined m.past [] m.each, append-nil m.past, tried) (asks_front 1 (map (keys_of_layout key) done) (keys_of_layout key chunk ∷ map (keys_of_layout key) rest) m.past m.in_order)
    in_rounds (x ∷ round) o e = rw (rounds_joined m.past (x ∷ round) m.each, rounds_found x round e) (with_round (x ∷ round) o)

    pub check_short : (e : NoMemory) → RoundAsks Q.Present b c (keys_of_layout key chunk) (Err e) → RanAsking task t layouts a c (Err e)
    check_short e r =
        ran task t key layouts a c (joined m.past ++ r.round) (Err e) w k (all_pairs r.round r.pairs_are)
        (λ setup. going setup t key task.key task.file layouts (joined m.past ++ r.round) A.Memory (go_on r.round r.ends) (in_rounds r.round r.in_order r.ends) tt)

    found : (round : List Asking) → ((n : ℕ) → AskInOrder present_request n (keys_of_layout key chunk) round) → list_all is_done round ≡ true → length round ≡ length (keys_of_layout key chunk) → 0 < length round
        → CheckAnswers (layouts_tried key layouts) (joined m.past ++ round) A.Present
    found [] o e l p = absurd (omega arith)
    found (x ∷ round) o e l p = record { found = rw (rounds_joined m.past (x ∷ round) m.each, rounds_found x round e, tried, there) refl }
      where
        there : list_any is_there (zip (map (keys_of_layout key) done ++ keys_of_layout key chunk ∷ map (keys_of_layout key) rest) (m.past ++ (x ∷ round) ∷ [])) ≡ true
        there =
            there_at (map (keys_of_layout key) done) m.past (keys_of_layout key chunk) (map (keys_of_layout key) rest) (x ∷ round) m.so_many
            (rw (eq-eqb (length (x ∷ round)) (length (keys_of_layout key chunk)) l, e) refl)

    pub check_found : RoundAsks Q.Present b c (keys_of_layout key chunk) (Ok None) → RanAsking task t layouts a c (Ok A.Present)
    check_found r =
        let some : 0 < length r.round = omega (arith, r.ends.1, length_keys key chunk, some_keys key.size chunk) in
        ran task t key layouts a c (joined m.past ++ r.round) (Ok A.Present) w k (all_pairs r.round r.pairs_are)
        (λ setup. going setup t key task.key task.file layouts (joined m.past ++ r.round) A.Present (go_on r.round r.ends.0) (in_rounds r.round r.in_order r.ends.0)
        (found r.round r.in_order r.ends.0 r.ends.1 some))

    pub check_stopped : (v : Verdict) (answer : Answer) → RoundAsks Q.Present b c (keys_of_layout key chunk) (Ok (Some v)) → is_some (verdict_stop false v) ≡ true → Some answer ≡ check_answer v
        → RanAsking task t layouts a c (Ok answer)
    check_stopped v answer r s e =
        ran task t key layouts a c ((joined m.past ++ r.ends.0) ++ r.ends.1 ∷ []) (Ok answer) w k
        (all_pairs r.round r.pairs_are ∙ ap (λ (x : List Asking). a ++ (joined m.past ++ x)) r.ends.2 ∙ ap (λ (x : List Asking). a ++ x) (sym joint))
        (λ setup. stopped setup t key task.key task.file layouts (joined m.past ++ r.ends.0) r.ends.1 answer (go_on r.ends.0 r.ends.3)
        (ap (λ (x : Verdict). verdict_stop false x) r.ends.4 ∙ stop_answers v s ∙ sym e) (rw joint (rw order_is (with_round (r.ends.0 ++ r.ends.1 ∷ []) order))))
      where
        joint : (joined m.past ++ r.ends.0) ++ r.ends.1 ∷ [] ≡ joined m.past ++ (r.ends.0 ++ r.ends.1 ∷ [])
        joint = append_assoc (joined m.past) r.ends.0 (r.ends.1 ∷ [])

        order : (n : ℕ) → AskInOrder present_request n (keys_of_layout key chunk) (r.ends.0 ++ r.ends.1 ∷ [])
        order n = rw r.ends.2 at (r.in_order n)

        order_is : rounds (joined m.past ++ (r.ends.0 ++ r.ends.1 ∷ [])) ≡ m.past ++ (r.ends.0 ++ r.ends.1 ∷ []) ∷ []
        order_is = rounds_joined m.past (r.ends.0 ++ r.ends.1 ∷ []) m.each
            ∙ ap (λ (x : List (List Asking)). m.past ++ x) (rounds_ended r.ends.0 r.ends.1 [] r.ends.3 (ap is_done_at r.ends.4 ∙ r.ends.5))

-- what is answered tells of no refused call
pub quiet_more : (missing : Answer) (v : Verdict) → may_follow_refusal (Ok missing) ≡ false → may_follow_refusal (Ok (missing_more missing v)) ≡ false
quiet_more A.Absent v h = by_verdict v
  where
    by_verdict : (v : Verdict) → may_follow_refusal (Ok (unwrap_or (unknown_at v) A.Absent)) ≡ false
    by_verdict (Unknown at) = refl
    by_verdict (Done at) = refl
    by_verdict (Failed at) = refl
    by_verdict (Absent at) = refl
    by_verdict (Unsupported at) = refl
    by_verdict (EndedAt why) = refl
    by_verdict Unsent = refl
quiet_more answer v h = h

pub quiet_check : (v : Verdict) (answer : Answer) → Some answer ≡ check_answer v → may_follow_refusal (Ok answer) ≡ false
quiet_check (Done at) answer e = let h : answer ≡ A.Present = cc in rw h refl
quiet_check (Failed at) answer e = cc
quiet_check (Absent at) answer e = let h : answer ≡ A.Absent = cc in rw h refl
quiet_check (Unknown at) answer e = let h : answer ≡ A.Unknown at = cc in rw h refl
quiet_check (Unsupported at) answer e = let h : answer ≡ A.Unsupported = cc in rw h refl
quiet_check (EndedAt why) answer e = let h : answer ≡ A.Ended why = cc in rw h refl
quiet_check Unsent answer e = let h : answer ≡ A.Unsent = cc in rw h refl

-- ---- one layout after the other

pub tried_of : (sizes items : List ℕ) (size : Option ℕ) (key : Parts) (told layouts : List (ℕ × ℕ)) → sizes ≡ items → items ≡ chunk_sizes size told ++ 0 ∷ [] → size ≡ key.size → told ≡ layouts → sizes ≡ sizes_tried key layouts
tried_of sizes items size key told layouts s i z l = s ∙ i ∙ ap (λ (o : Option ℕ). chunk_sizes o told ++ 0 ∷ []) z ∙ ap (λ (x : List (ℕ × ℕ)). chunk_sizes key.size x ++ 0 ∷ []) l

pub split_at : (xs : List ℕ) (i : ℕ) → i < length xs → xs ≡ take i xs ++ get_or xs i 0 ∷ drop (i + 1) xs
split_at xs i h = sym (take-append-drop i xs) ∙ ap (λ (x : List ℕ). take i xs ++ x) (drop-cons xs i 0 h ∙ ap (λ (n : ℕ). get_or xs i 0 ∷ drop n xs) (sym (add-one i)))

pub take_next : (xs : List ℕ) (i : ℕ) → i < length xs → take (i + 1) xs ≡ take i xs ++ get_or xs i 0 ∷ []
take_next xs i h = ap (λ (n : ℕ). take n xs) (add-one i) ∙ take-suc xs i 0 h

pub missed_next : (a b c : List Asking) (key : Parts) (sizes : List ℕ) (i : ℕ) (missing : Answer) (v : Verdict) → i < length sizes → Missed a b (map (keys_of_layout key) (take i sizes)) missing
    → RoundAsks Q.Present b c (keys_of_layout key (get_or sizes i 0)) (Ok (Some v)) → is_some (verdict_stop false v) ≡ false → Missed a c (map (keys_of_layout key) (take (i + 1) sizes)) (missing_more missing v)
missed_next a b c key sizes i missing v h m r s =
    let e : map (keys_of_layout key) (take (i + 1) sizes) ≡ map (keys_of_layout key) (take i sizes) ++ keys_of_layout key (get_or sizes i 0) ∷ [] =
    ap (λ (l : List ℕ). map (keys_of_layout key) l) (take_next sizes i h) ∙ map-append (keys_of_layout key) (take i sizes) (get_or sizes i 0 ∷ []) in
    rw e (missed_more a b c (map (keys_of_layout key) (take i sizes)) (keys_of_layout key (get_or sizes i 0)) missing v m r s)

pub missed_all : (a b : List Asking) (key : Parts) (sizes : List ℕ) (i : ℕ) (missing : Answer) → length sizes ≤ i → Missed a b (map (keys_of_layout key) (take i sizes)) missing → Missed a b (map (keys_of_layout key) sizes) missing
missed_all a b key sizes i missing h m = let P : List ℕ → Type 0 = λ l. Missed a b (map (keys_of_layout key) l) missing in subst P (take_all i sizes h) m
