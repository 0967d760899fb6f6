-- How a get that is answered Got has ended.
use Rattle.std.proofs.Common.{◌≡◌, ◌≤◌, ◌+◌, ◌-◌, List, [], ◌∷◌, length, arith, refl, sym, ap, subst}
use Rattle.std.specs.Prelude.{ℕ, Bool, true, false, not, Option, Some, IfSome, map, unwrap_or}
use Rattle.std.specs.List.{list_all}
use Rattle.std.proofs.lemmas.List.Sums.{count_by-le-length}
use Rattle.ann_key.specs.Keys.{Parts, key_reading}
use Rattle.ann_outside.specs.declared.file_desk.Call.{Call}
use Rattle.annex_model.specs.Messages.{HostMessage}
use Rattle.task_text.specs.Layouts.Layouts.{Part}
use Rattle.journal_model.specs.declared.answer.Answer.TheVariants as A
use Rattle.task_text.specs.declared.task.Task.{Task}
use Rattle.task_text.specs.declared.task.Work.{Work}
use Rattle.task_text.specs.declared.task.Work.TheVariants as W
use Rattle.task_model.specs.Askers.{Asking, Noting}
use Rattle.task_model.specs.declared.setup.Setup.{Setup}
use Rattle.task_model.specs.declared.turn.TaskTurn.{TaskTurn}
use Rattle.task_model.specs.Stops.{stops_of}
use Rattle.task_model.specs.Names.{part_of}
use Rattle.task_model.specs.Layouts.{sizes_tried}
use Rattle.task_model.specs.Requests.{AskInOrder}
use Rattle.task_model.specs.Gets.{asked_last, failures, fetch_request, first_asked, is_failed, item, lengths_at_begin, wanted, GetAnswers}
use Rattle.task_model.specs.Exports.{fetch_export}
use Rattle.task_model.specs.Runs.{RunOf, WorkAsks, WorkAnswers, TaskRun}
use Rattle.task_model.specs.RunLaws.{IsGot, is_get, sizes_got}
use Rattle.task_model.proofs.GotLaws.{got_needs_fit, finished, stops_other}
use Rattle.task_run.proofs.GetLemmas.LastCalls.{after_last-at, after_last-none}
use Rattle.run_starts.specs.TaskLaws.Kept.{fetch_of}
use Rattle.run_starts.proofs.TaskLawsLemmas.LastRounds.{LastAsks, last_asks}
use Rattle.ann_outside.proofs.Across.{count_none}

-- ---- a get that is answered so

-- the keys that layouts of these sizes want
abbrev pub keys_wanted : Parts → List ℕ → List ℕ → List (List Parts)
keys_wanted key sizes lengths = map (λ (parts : List Part). map (λ (p : Part). p.key) parts) (wanted key sizes lengths)

-- what it asked last and how it ended
pub record GotEnds (setup : Setup) (t : TaskTurn) (work : Work) (file : List ℕ) (key : Parts) (layouts : List (ℕ × ℕ)) (asked : List Asking) (calls : List Call) : Type 0 where
  pub asks : LastAsks (fetch_of work setup t) (keys_wanted key (sizes_got work key layouts) (lengths_at_begin file calls)) asked
  pub answers : GetAnswers setup t key (sizes_got work key layouts) file asked calls A.Got

-- a task that asks for one key alone asked for it last, or failed before
one_key : (ask : ℕ → List ℕ → HostMessage) (key : Parts) (asked : List Asking) → AskInOrder ask 1 (key ∷ []) asked → LastAsks ask ((key ∷ []) ∷ []) asked
one_key ask key [] h = record { few = omega arith; in_order = tt }
one_key ask key (a ∷ []) h = by_test (is_failed a) refl
  where
    few : failures (a ∷ []) ≤ 1
    few = count_by-le-length is_failed (a ∷ [])

    by_test : (b : Bool) → is_failed a ≡ b → LastAsks ask ((key ∷ []) ∷ []) (a ∷ [])
    by_test true e =
        let last : asked_last (a ∷ []) ≡ [] = after_last-at is_failed [] a [] refl e in
        let P : List Asking → Type 0 = λ x. AskInOrder ask (first_asked (a ∷ [])) (unwrap_or (item (failures (a ∷ [])) ((key ∷ []) ∷ [])) []) x in
        record { few = few; in_order = subst P (sym last) tt }
    by_test false e =
        let none : list_all (λ (x : Asking). not (is_failed x)) (a ∷ []) ≡ true = rw e refl in
        let zero_failed : failures (a ∷ []) ≡ 0 = count_none is_failed (a ∷ []) none in
        let last : asked_last (a ∷ []) ≡ a ∷ [] = after_last-none is_failed (a ∷ []) none in
        let first : first_asked (a ∷ []) ≡ 1 = ap (λ (x : List Asking). 1 - length x + 1) last in
        let P : List Asking → Type 0 = λ x. AskInOrder ask 1 (key ∷ []) x in
        let Q : ℕ → Type 0 = λ k. AskInOrder ask 1 (unwrap_or (item k ((key ∷ []) ∷ [])) []) (asked_last (a ∷ [])) in
        let R : ℕ → Type 0 = λ k. AskInOrder ask k (unwrap_or (item (failures (a ∷ [])) ((key ∷ []) ∷ [])) []) (asked_last (a ∷ [])) in
        record { few = few; in_order = subst R (sym first) (subst Q (sym zero_failed) (subst P (sym last) h)) }
one_key ask key (a ∷ b ∷ more) h = absurd h.1

-- in the plain layout alone the key is all that is wanted
plain_alone : (key : Parts) (lengths : List ℕ) → keys_wanted key (0 ∷ []) lengths ≡ (key ∷ []) ∷ []
plain_alone key [] = refl
plain_alone key (n ∷ later) = refl

module _ (setup : Setup) (t : TaskTurn) (task : Task) (key : Parts) (layouts : List (ℕ × ℕ)) (asked : List Asking) (calls : List Call) (noted : List Noting) where
  ends_by : (work : Work) → is_get work ≡ true → WorkAsks setup t task key layouts work asked calls noted → WorkAnswers setup t task key layouts work asked calls noted A.Got
      → GotEnds setup t work task.file key layouts asked calls
  ends_by W.Get h a r = record {
    asks = last_asks (fetch_request setup t) (keys_wanted key (sizes_tried key layouts) (lengths_at_begin task.file calls)) asked a.1.each_failed a.1.in_order;
    answers = r;
  }
  ends_by W.XGet h a r = record {
    asks = subst (λ (keys : List (List Parts)). LastAsks (fetch_export setup t) keys asked) (sym (plain_alone key (lengths_at_begin task.file calls)))
        (one_key (fetch_export setup t) key asked a.0.asks.in_order);
    answers = r;
  }
  ends_by _ h a r = absurd cc

pub got_ends : (task : Task) (t : TaskTurn) (setup : Setup) (layouts : List (ℕ × ℕ)) (asked : List Asking) (calls : List Call) (noted : List Noting) (key : Parts)
    → key_reading task.key ≡ Some key → TaskRun task t setup layouts asked calls noted A.Got → GotEnds setup t task.work task.file key layouts asked calls
got_ends task t setup layouts asked calls noted key e r =
    let P : Option Parts → Type 0 = λ o. IfSome o (λ k. RunOf setup t task k layouts asked calls noted A.Got) in
    let run : RunOf setup t task key layouts asked calls noted A.Got = subst P e r in
    let got : IsGot task t setup layouts asked calls key = got_needs_fit task t setup layouts asked calls noted key e r in
    ends_by setup t task key layouts asked calls noted task.work got.work run.work
    (finished (stops_of task.work (part_of task.file) asked calls) (WorkAnswers setup t task key layouts task.work asked calls noted A.Got) (stops_other task.work (part_of task.file) asked calls) run.answered)
