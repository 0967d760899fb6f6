-- A get from its first layout on, as the run of its task.
use Rattle.std.proofs.Common.{◌≡◌, ◌∙◌, ℕ, ◌+◌, ◌≤◌, ◌<◌, ◌==◌, eq-eqb, add-one, drop-cons, not, Bool, true, false, List, [], ◌∷◌, ◌++◌, length, refl, sym, ap, subst, arith, append-nil, length-append}
use Rattle.std.specs.Prelude.{drop, slice_index_or, Option, Some, None, Result, Ok, Err}
use Rattle.ann_key.specs.Keys.{Parts, key_reading}
use Rattle.ann_key.specs.declared.bytes.NoMemory.{NoMemory}
use Rattle.task_text.specs.Layouts.Layouts.{Part, count_of}
use Rattle.journal_model.specs.declared.answer.Answer.{Answer}
use Rattle.task_text.specs.declared.task.Task.{Task}
use Rattle.task_text.specs.declared.task.Work.TheVariants as W
use Rattle.ann_outside.specs.Calls.{Log}
use Rattle.ann_outside.specs.declared.file_desk.Call.{Call}
use Rattle.task_model.specs.Askers.{Asking}
use Rattle.task_model.specs.declared.setup.Setup.{Setup}
use Rattle.task_model.specs.declared.turn.TaskTurn.{TaskTurn}
use Rattle.std.proofs.lemmas.List.{drop_all}
use Rattle.std.proofs.lemmas.List.Folds.{list_all_at}
use Rattle.std.proofs.lemmas.Bool.Decides.{nat_tests}
use Rattle.task_model.specs.Askers.{are_layouts}
use Rattle.task_run.specs.declared.get.get_chunk.Went.{Went}
use Rattle.task_run.specs.declared.get.get_chunk.Went.TheVariants as T
use Rattle.task_run.proofs.GetLemmas.GetChunks.{both_grown}
use Rattle.task_model.specs.Layouts.{chunk_sizes, sizes_tried}
use Rattle.task_model.specs.Gets.{is_failed}
use Rattle.task_model.specs.Runs.{RunOf, TaskRun}
use Rattle.task_model.specs.Ran.{RanGet, answered}
use Rattle.task_run.specs.Get.Fronts.{Place, Between, Ended}
use Rattle.task_run.specs.Get.LayoutRuns.{Grown, place_at, LayoutEnd, LayoutRan, TriesEnd, TriesRan, WholeRan, GetRan}
use Rattle.task_model.proofs.CopyingLemmas.CopyLaws.{gained_nothing}
use Rattle.task_run.proofs.GetLemmas.LastCalls.{after_last-none}
use Rattle.task_model.proofs.PlainRuns.{of_reading}
use Rattle.task_run.proofs.GetLemmas.GetRuns.{get_task, no_chunks as none_left}
use Rattle.task_model.proofs.NamedRuns.{nameless, with_names}
use Rattle.task_text.specs.Works.{has_name}
use Rattle.ann_key.proofs.Booleans.{false_is_true as apart}

-- nothing was tried
pub between_first : (p : Place) → Between p [] [] [] p.sizes []
between_first p = record {
  tries = record {
    sizes_are = refl;
    each_done = refl;
    failed = refl;
    calm = refl;
    in_order = λ more next h. h;
    last = λ next none. after_last-none is_failed next none;
  };
  wants = λ later. refl;
  begun = refl;
  sound = record { names = refl; changes = refl; lengths = refl; found = refl; held = refl; told = λ before. refl; few = omega arith; fresh = λ n low high. refl };
  free = refl;
}

-- ---- the layouts that are tried

pub sizes_skip : (size : ℕ) (layout : ℕ × ℕ) (more : List (ℕ × ℕ)) → (layout.1 == count_of size layout.0) ≡ false → chunk_sizes (Some size) (layout ∷ more) ≡ chunk_sizes (Some size) more
sizes_skip size layout more e = rw e refl

pub sizes_take : (size : ℕ) (layout : ℕ × ℕ) (more : List (ℕ × ℕ)) → (layout.1 == count_of size layout.0) ≡ true → chunk_sizes (Some size) (layout ∷ more) ≡ layout.0 ∷ chunk_sizes (Some size) more
sizes_take size layout more e = rw e refl

-- ---- the run

run_of : (setup : Setup) (t : TaskTurn) (key : Parts) (text file : List ℕ) (layouts : List (ℕ × ℕ)) (asked : List Asking) (calls : List Call) (answer : Answer)
    → Ended (place_at setup t key file (sizes_tried key layouts)) asked calls answer → RunOf setup t (get_task text file) key layouts asked calls [] answer
run_of setup t key text file layouts asked calls answer e = record {
  asked_till_stop = e.asked_till_stop;
  calls_till_stop = e.calls_till_stop;
  found = e.found;
  work = (e.get_calls, e.get_asks, refl);
  answered = e.answered;
}

some_inj : (p q : Parts) → Some p ≡ Some q → p ≡ q
some_inj p q e = cc

pub ran_get : (task : Task) (t : TaskTurn) (setup : Setup) (key : Parts) (layouts : List (ℕ × ℕ)) (before after : List Asking) (old new : Option Log) (result : Result Answer NoMemory) → task.work ≡ W.Get → key_reading task.key ≡ Some key
    → (g : Grown before after old new) → Ended (place_at setup t key task.file (sizes_tried key layouts)) g.asked g.made (answered result) → RanGet task t setup layouts before after old new result
ran_get task t setup key layouts before after old new result w r g e = record {
  asked = g.asked;
  calls = g.made;
  pairs_are = g.pairs_are;
  log_is = g.log_is;
  run =
      let as_get : nameless task ≡ get_task task.key task.file = ap (λ x. record { work = x; key = task.key; file = task.file; name = []; onto = [] }) w in
      let P : Task → Type 0 = λ j. TaskRun j t setup layouts g.asked g.made [] (answered result) in
      with_names task t setup layouts g.asked g.made [] (answered result) (ap has_name w)
      (subst P (sym as_get) (of_reading task.key (λ k. RunOf setup t (get_task task.key task.file) k layouts g.asked g.made [] (answered result))
      (λ k d. let same : key ≡ k = some_inj key k (sym r ∙ d) in
      let Q : Parts → Type 0 = λ k. RunOf setup t (get_task task.key task.file) k layouts g.asked g.made [] (answered result) in
      subst Q same (run_of setup t key task.key task.file layouts g.asked g.made (answered result) e))));
}

-- ---- layout after layout

pub record TriesSoFar (setup : Setup) (t : TaskTurn) (key : Parts) (file : List ℕ) (layouts : List (ℕ × ℕ)) (i now : ℕ) (pairs later : List Asking) (old new : Option Log) : Type 0 where
  pub grown : Grown pairs later old new
  pub done : List (List Part)
  pub tried : List ℕ
  pub between : Between (place_at setup t key file (sizes_tried key layouts)) grown.asked done tried (chunk_sizes key.size (drop i layouts) ++ 0 ∷ []) grown.made
  pub counted : now ≡ length grown.asked

pub tries_none : (setup : Setup) (t : TaskTurn) (key : Parts) (file : List ℕ) (layouts : List (ℕ × ℕ)) (now : ℕ) (pairs : List Asking) (log : Option Log) → now ≡ 0 → TriesSoFar setup t key file layouts 0 now pairs pairs log log
tries_none setup t key file layouts now pairs log z = record {
  grown = record { asked = []; made = []; pairs_are = sym (append-nil pairs); log_is = gained_nothing log };
  done = [];
  tried = [];
  between = between_first (place_at setup t key file (sizes_tried key layouts));
  counted = z;
}

pub tries_skip : (setup : Setup) (t : TaskTurn) (key : Parts) (file : List ℕ) (layouts : List (ℕ × ℕ)) (i now size : ℕ) (layout : ℕ × ℕ) (pairs later : List Asking) (old new : Option Log) → key.size ≡ Some size
    → drop i layouts ≡ layout ∷ drop (i + 1) layouts → (layout.1 == count_of size layout.0) ≡ false → TriesSoFar setup t key file layouts i now pairs later old new → TriesSoFar setup t key file layouts (i + 1) now pairs later old new
tries_skip setup t key file layouts i now size layout pairs later old new s d c r =
    let e : chunk_sizes key.size (drop i layouts) ≡ chunk_sizes key.size (drop (i + 1) layouts) =
    ap (λ (o : Option ℕ). chunk_sizes o (drop i layouts)) s ∙ ap (chunk_sizes (Some size)) d ∙ sizes_skip size layout (drop (i + 1) layouts) c ∙ ap (λ (o : Option ℕ). chunk_sizes o (drop (i + 1) layouts)) (sym s) in
    let P : List ℕ → Type 0 = λ l. Between (place_at setup t key file (sizes_tried key layouts)) r.grown.asked r.done r.tried (l ++ 0 ∷ []) r.grown.made in
    record { grown = r.grown; done = r.done; tried = r.tried; between = subst P e r.between; counted = r.counted }

state : (setup : Setup) (t : TaskTurn) (key : Parts) (file : List ℕ) (layouts : List (ℕ × ℕ)) (i now size : ℕ) (layout : ℕ × ℕ) (pairs mid later : List Asking) (old on new : Option Log) (after : ℕ) (result : Result Went NoMemory) → key.size ≡ Some size
    → drop i layouts ≡ layout ∷ drop (i + 1) layouts → (layout.1 == count_of size layout.0) ≡ true → (r : TriesSoFar setup t key file layouts i now pairs mid old on) → (l : LayoutRan setup t key file layout.0 now after mid later on new result)
    → LayoutEnd (record { place = place_at setup t key file (sizes_tried key layouts); past = r.grown.asked; done = r.done; tried = r.tried; chunk = layout.0; rest = chunk_sizes key.size (drop (i + 1) layouts) ++ 0 ∷ [] }) r.grown.made l.grown.asked l.grown.made result
state setup t key file layouts i now size layout pairs mid later old on new after result s d c r l =
    let e : chunk_sizes key.size (drop i layouts) ≡ layout.0 ∷ chunk_sizes key.size (drop (i + 1) layouts) =
    ap (λ (o : Option ℕ). chunk_sizes o (drop i layouts)) s ∙ ap (chunk_sizes (Some size)) d ∙ sizes_take size layout (drop (i + 1) layouts) c ∙ ap (λ (o : Option ℕ). layout.0 ∷ chunk_sizes o (drop (i + 1) layouts)) (sym s) in
    let P : List ℕ → Type 0 = λ x. Between (place_at setup t key file (sizes_tried key layouts)) r.grown.asked r.done r.tried (x ++ 0 ∷ []) r.grown.made in
    let one : List ℕ = 0 ∷ [] in
    let n : length (chunk_sizes key.size (drop (i + 1) layouts) ++ one) ≡ length (chunk_sizes key.size (drop (i + 1) layouts)) + 1 = length-append (chunk_sizes key.size (drop (i + 1) layouts)) one in
    l.goes (record { sizes = sizes_tried key layouts; past = r.grown.asked; done = r.done; tried = r.tried; rest = chunk_sizes key.size (drop (i + 1) layouts) ++ 0 ∷ []; calls = r.grown.made }) r.counted (omega (arith, n)) (subst P e r.between)

pub tries_more : (setup : Setup) (t : TaskTurn) (key : Parts) (file : List ℕ) (layouts : List (ℕ × ℕ)) (i now size : ℕ) (layout : ℕ × ℕ) (pairs mid later : List Asking) (old on new : Option Log) (after : ℕ) → key.size ≡ Some size
    → drop i layouts ≡ layout ∷ drop (i + 1) layouts → (layout.1 == count_of size layout.0) ≡ true → TriesSoFar setup t key file layouts i now pairs mid old on → LayoutRan setup t key file layout.0 now after mid later on new (Ok T.Failed)
    → TriesSoFar setup t key file layouts (i + 1) after pairs later old new
tries_more setup t key file layouts i now size layout pairs mid later old on new after s d c r l =
    let e = state setup t key file layouts i now size layout pairs mid later old on new after (Ok T.Failed) s d c r l in
    record {
      grown = both_grown pairs mid later old on new r.grown l.grown;
      done = r.done ++ e.0 ∷ [];
      tried = r.tried ++ layout.0 ∷ [];
      between = e.1;
      counted = let n : length (r.grown.asked ++ l.grown.asked) ≡ length r.grown.asked + length l.grown.asked = length-append r.grown.asked l.grown.asked in let k = l.counted refl in let j = r.counted in omega (arith, n, k, j);
    }

pub tries_end : (setup : Setup) (t : TaskTurn) (key : Parts) (file : List ℕ) (layouts : List (ℕ × ℕ)) (i now size : ℕ) (layout : ℕ × ℕ) (pairs mid later : List Asking) (old on new : Option Log) (after : ℕ) (result : Result Went NoMemory) → key.size ≡ Some size
    → drop i layouts ≡ layout ∷ drop (i + 1) layouts → (layout.1 == count_of size layout.0) ≡ true → TriesSoFar setup t key file layouts i now pairs mid old on → LayoutRan setup t key file layout.0 now after mid later on new result
    → (result ≡ Ok T.Failed → ⊥) → TriesRan setup t key file layouts after pairs later old new result
tries_end setup t key file layouts i now size layout pairs mid later old on new after result s d c r l bad = record {
  grown = both_grown pairs mid later old on new r.grown l.grown;
  goes = by_result result bad (state setup t key file layouts i now size layout pairs mid later old on new after result s d c r l);
}
  where
    by_result : (x : Result Went NoMemory) → (x ≡ Ok T.Failed → ⊥)
        → LayoutEnd (record { place = place_at setup t key file (sizes_tried key layouts); past = r.grown.asked; done = r.done; tried = r.tried; chunk = layout.0; rest = chunk_sizes key.size (drop (i + 1) layouts) ++ 0 ∷ [] }) r.grown.made l.grown.asked l.grown.made x
        → TriesEnd (place_at setup t key file (sizes_tried key layouts)) (0 ∷ []) after (r.grown.asked ++ l.grown.asked) (r.grown.made ++ l.grown.made) x
    by_result (Ok T.Whole) bad h = h
    by_result (Ok T.Failed) bad h = absurd (bad refl)
    by_result (Ok (T.Over answer)) bad h = h
    by_result (Err e) bad h = h

pub tries_all : (setup : Setup) (t : TaskTurn) (key : Parts) (file : List ℕ) (layouts : List (ℕ × ℕ)) (i now : ℕ) (pairs later : List Asking) (old new : Option Log) → length layouts ≤ i → TriesSoFar setup t key file layouts i now pairs later old new
    → TriesRan setup t key file layouts now pairs later old new (Ok T.Failed)
tries_all setup t key file layouts i now pairs later old new h r = record {
  grown = r.grown;
  goes =
      let e : chunk_sizes key.size (drop i layouts) ≡ [] = ap (chunk_sizes key.size) (drop_all i layouts h) ∙ none_left key.size in
      let P : List ℕ → Type 0 = λ x. Between (place_at setup t key file (sizes_tried key layouts)) r.grown.asked r.done r.tried (x ++ 0 ∷ []) r.grown.made in
      (r.done, r.tried, subst P e r.between, r.counted);
}

-- a key without a size has no layout of chunks
pub tries_unsized : (setup : Setup) (t : TaskTurn) (key : Parts) (file : List ℕ) (layouts : List (ℕ × ℕ)) (now : ℕ) (pairs : List Asking) (log : Option Log) → key.size ≡ None → now ≡ 0
    → TriesRan setup t key file layouts now pairs pairs log log (Ok T.Failed)
tries_unsized setup t key file layouts now pairs log none z = record {
  grown = record { asked = []; made = []; pairs_are = sym (append-nil pairs); log_is = gained_nothing log };
  goes =
      let e : chunk_sizes key.size layouts ≡ [] = ap (λ (o : Option ℕ). chunk_sizes o layouts) none in
      let P : List ℕ → Type 0 = λ x. Between (place_at setup t key file (sizes_tried key layouts)) [] [] [] (x ++ 0 ∷ []) [] in
      ([], [], subst P e (between_first (place_at setup t key file (sizes_tried key layouts))), z);
}

-- ---- the plain layout after them

pub got_over : (setup : Setup) (t : TaskTurn) (key : Parts) (file : List ℕ) (layouts : List (ℕ × ℕ)) (now : ℕ) (pairs later : List Asking) (old new : Option Log) (answer : Answer)
    → TriesRan setup t key file layouts now pairs later old new (Ok (T.Over answer)) → GetRan setup t key file layouts pairs later old new (Ok answer)
got_over setup t key file layouts now pairs later old new answer r = record { grown = r.grown; goes = r.goes }

pub got_plain : (setup : Setup) (t : TaskTurn) (key : Parts) (file : List ℕ) (layouts : List (ℕ × ℕ)) (now : ℕ) (pairs mid later : List Asking) (old on new : Option Log) (result : Result Answer NoMemory)
    → TriesRan setup t key file layouts now pairs mid old on (Ok T.Failed) → WholeRan setup t key file now mid later on new result → GetRan setup t key file layouts pairs later old new result
got_plain setup t key file layouts now pairs mid later old on new result r w = record {
  grown = both_grown pairs mid later old on new r.grown w.grown;
  goes = w.goes (sizes_tried key layouts) r.grown.asked r.goes.0 r.goes.1 r.grown.made r.goes.3 r.goes.2;
}

-- ---- the layout of a number

pub at_layout : (layouts : List (ℕ × ℕ)) (i : ℕ) → i < length layouts → drop i layouts ≡ slice_index_or layouts i (0, 0) ∷ drop (i + 1) layouts
at_layout layouts i h = rw add-one (drop-cons layouts i (0, 0) h)

positive : (n : ℕ) → not (n == 0) ≡ true → 0 < n
positive n h = grind (arith, nat_tests)

pub sized_at : (layouts : List (ℕ × ℕ)) (i : ℕ) → are_layouts layouts ≡ true → i < length layouts → 0 < (slice_index_or layouts i (0, 0)).0
sized_at layouts i all h = by_test (not ((slice_index_or layouts i (0, 0)).0 == 0)) refl
  where
    by_test : (b : Bool) → not ((slice_index_or layouts i (0, 0)).0 == 0) ≡ b → 0 < (slice_index_or layouts i (0, 0)).0
    by_test true e = positive (slice_index_or layouts i (0, 0)).0 e
    by_test false e = apart (sym (list_all_at (λ (layout : ℕ × ℕ). not (layout.0 == 0)) layouts i (0, 0) h e) ∙ all)

pub test_is : (a b n : ℕ) → a ≡ n → n ≡ b → (a == b) ≡ true
test_is a b n e f = eq-eqb a b (e ∙ f)

pub test_differs : (a b n : ℕ) → (a ≡ n → ⊥) → n ≡ b → (a == b) ≡ false
test_differs a b n e f = grind (arith, nat_tests)

-- ---- the task's own words

pub ran_from : (task : Task) (t : TaskTurn) (setup : Setup) (key : Parts) (file : List ℕ) (layouts known : List (ℕ × ℕ)) (before mid after : List Asking) (old new : Option Log) (result : Result Answer NoMemory) → task.work ≡ W.Get
    → key_reading task.key ≡ Some key → file ≡ task.file → layouts ≡ known → mid ≡ before → GetRan setup t key file layouts mid after old new result → RanGet task t setup known before after old new result
ran_from task t setup key file layouts known before mid after old new result w r f l m h =
    let P : List (ℕ × ℕ) → Type 0 = λ x. GetRan setup t key task.file x before after old new result in
    let Q : List ℕ → Type 0 = λ x. GetRan setup t key x layouts before after old new result in
    let R : List Asking → Type 0 = λ x. GetRan setup t key file layouts x after old new result in
    let k : GetRan setup t key task.file known before after old new result = subst P l (subst Q f (subst R m h)) in
    ran_get task t setup key known before after old new result w r k.grown k.goes
