-- What is kept of each task is what the journal says, after each group too.
use Rattle.std.proofs.Common.{◌≡◌, ◌∙◌, ℕ, zero, suc, ◌+◌, ◌-◌, ◌<◌, ◌≤◌, ◌^◌, List, [], ◌∷◌, ◌++◌, refl, sym, ap, subst, Bool, true, false, not, cond, Option, Some, None, length, set, arith, inl, inr, get_or-set_other, get_or-set_same, append-nil}
use Rattle.std.specs.Prelude.{◌&&◌, ◌==◌, nat_lt, find}
use Rattle.std.specs.List.{range_with_len}
use Rattle.std.proofs.lemmas.Bool.{eqb-true, eqb-false, and_parts as both}
use Rattle.std.proofs.lemmas.Bool.Decides.{nat_tests}
use Rattle.std.proofs.lemmas.List.{get_or_past, length-set}
use Rattle.journal_model.specs.declared.holder.Holder.{Holder}
use Rattle.journal_model.specs.declared.entry.What.{What}
use Rattle.journal_model.specs.declared.entry.What.TheVariants.{Claim, Lead, Ask, Answer as Answered, Again}
use Rattle.journal_model.specs.declared.entry.Entry.{Entry}
use Rattle.journal_model.specs.declared.opening.Opening.{Opening}
use Rattle.journal_model.specs.Due.{due_after, made_by}
use Rattle.journal_model.specs.Legality.{count, renews, holder, turned_by, is_number, is_free, least_free, is_claimed_by, has_open_job, is_of_lost_child, is_held_over_child, is_run_again, may_come, turn_of_task}
use Rattle.journal_model.proofs.Growing.{pair}
use Rattle.journal_model.proofs.Holding.{claimed, closed, due_names, holder_append, unturned}
use Rattle.journal_model.proofs.Looks.{entry}
use Rattle.journal_model.proofs.Working.{count-append, count_one, due_untasked, one_if, unrenewed_in}
use Rattle.host_core.specs.declared.due.Due.{Due}
use Rattle.host_core.specs.declared.due.Due.TheVariants.{Nothing}
use Rattle.host_core.specs.declared.event.Event.{Event}
use Rattle.host_core.specs.declared.event.Reply.TheVariants.{Task as TaskReply}
use Rattle.host_core.specs.declared.moves.Move.{Move}
use Rattle.host_core.specs.declared.runs.Run.{Run}
use Rattle.host_core.specs.Moves.{IsStep, dues, group_made}
use Rattle.host_core.specs.Runs.{AreRuns, IsCounted, held_so, no_run, run_again, run_in, runs_after, runs_by}
use Rattle.host_core.specs.Steps.{Step, step_of, claim}
use Rattle.host_core.proofs.Stepping.{Came, plain_may, step_came}
use Rattle.host_core.proofs.Noting.{first_is}
use Rattle.host_core.proofs.Queueing.{rest_is}

-- ---- at the begin nothing was done

pub no_runs : (o : Opening) (runs : List Run) → length runs ≡ length o.tasks + 1 → ((t : ℕ) → t < length runs → run_in runs t ≡ no_run) → AreRuns o [] runs
no_runs o runs long none = record {
  long = long;
  renewed = λ t. ap (λ (r : Run). r.renewed) (each t (nat_lt t (length runs)) refl);
  over_child = λ t. ap (λ (r : Run). r.over_child) (each t (nat_lt t (length runs)) refl);
}
  where
    each : (t : ℕ) (b : Bool) → nat_lt t (length runs) ≡ b → run_in runs t ≡ no_run
    each t true e = none t (grind (arith, nat_tests, e))
    each t false e = get_or_past runs t no_run (grind (arith, nat_tests, e))

-- ---- the table after an entry

-- what the entry makes of the task's run
abbrev run_by : ℕ → What → Run → Run
run_by t (Claim task child) run = cond (task == t) (held_so (not (child == 0)) run) run
run_by t (Answered task answer) run = cond (task == t) (held_so false run) run
run_by t (Again task answer) run = cond (task == t) (run_again run) run
run_by t w run = run

set_run : (runs : List Run) (task t : ℕ) (run : Run) → (length runs ≤ task → run ≡ no_run) → run_in (set runs task run) t ≡ cond (task == t) run (run_in runs t)
set_run runs task t run fits = go (task == t) refl
  where
    here : (b : Bool) → nat_lt task (length runs) ≡ b → run_in (set runs task run) task ≡ run
    here true e = get_or-set_same runs task run no_run (grind (arith, nat_tests, e))
    here false e =
        let over : length runs ≤ task = grind (arith, nat_tests, e) in
        let same : length (set runs task run) ≡ length runs = length-set runs task run in
        get_or_past (set runs task run) task no_run (omega (arith, same, over)) ∙ sym (fits over)

    go : (c : Bool) → (task == t) ≡ c → run_in (set runs task run) t ≡ cond c run (run_in runs t)
    go true e = subst (λ (n : ℕ). run_in (set runs task run) n ≡ run) (eqb-true task t e) (here (nat_lt task (length runs)) refl)
    go false e = get_or-set_other runs task t run no_run (λ (same : t ≡ task). eqb-false task t e (sym same))

-- the task of an entry that may change its run to more than nothing has a place
abbrev InPlace : What → List Run → Type 0
InPlace (Claim task child) runs = task < length runs
InPlace (Again task answer) runs = task < length runs
InPlace w runs = Unit {0}

of_task : (runs : List Run) (task t : ℕ) (f : Run → Run) → run_in (set runs task (f (run_in runs task))) t ≡ cond (task == t) (f (run_in runs task)) (run_in runs t)
    → run_in (set runs task (f (run_in runs task))) t ≡ cond (task == t) (f (run_in runs t)) (run_in runs t)
of_task runs task t f is = go (task == t) refl is
  where
    go : (c : Bool) → (task == t) ≡ c → run_in (set runs task (f (run_in runs task))) t ≡ cond c (f (run_in runs task)) (run_in runs t)
        → run_in (set runs task (f (run_in runs task))) t ≡ cond c (f (run_in runs t)) (run_in runs t)
    go true e is = is ∙ ap (λ (n : ℕ). f (run_in runs n)) (eqb-true task t e)
    go false e is = is

kept_by : (w : What) (runs : List Run) (t : ℕ) → InPlace w runs → run_in (runs_by w runs) t ≡ run_by t w (run_in runs t)
kept_by (Claim task child) runs t within =
    of_task runs task t (held_so (not (child == 0))) (set_run runs task t (held_so (not (child == 0)) (run_in runs task)) (λ over. absurd (omega (arith, within, over))))
kept_by (Answered task answer) runs t within =
    of_task runs task t (held_so false) (set_run runs task t (held_so false (run_in runs task)) (λ over. ap (held_so false) (get_or_past runs task no_run over)))
kept_by (Again task answer) runs t within =
    of_task runs task t run_again (set_run runs task t (run_again (run_in runs task)) (λ over. absurd (omega (arith, within, over))))
kept_by w runs t within = refl

long_by : (w : What) (runs : List Run) → length (runs_by w runs) ≡ length runs
long_by (Claim task child) runs = length-set runs task (held_so (not (child == 0)) (run_in runs task))
long_by (Answered task answer) runs = length-set runs task (held_so false (run_in runs task))
long_by (Again task answer) runs = length-set runs task (run_again (run_in runs task))
long_by w runs = refl

renewed_by : (t : ℕ) (w : What) (run : Run) → (run_by t w run).renewed ≡ run.renewed + one_if (renews t w)
renewed_by t (Claim task child) run = go (task == t)
  where
    go : (c : Bool) → (cond c (held_so (not (child == 0)) run) run).renewed ≡ run.renewed + 0
    go true = omega arith
    go false = omega arith
renewed_by t (Answered task answer) run = go (task == t)
  where
    go : (c : Bool) → (cond c (held_so false run) run).renewed ≡ run.renewed + 0
    go true = omega arith
    go false = omega arith
renewed_by t (Again task answer) run = go (task == t)
  where
    go : (c : Bool) → (cond c (run_again run) run).renewed ≡ run.renewed + one_if c
    go true = refl
    go false = omega arith
renewed_by t w run = omega arith

over_by : (t by : ℕ) (w : What) (run : Run) (h : Option Holder) → run.over_child ≡ is_held_over_child h → (run_by t w run).over_child ≡ is_held_over_child (turned_by t h by w)
over_by t by (Claim task child) run h is = go (task == t)
  where
    go : (c : Bool) → (cond c (held_so (not (child == 0)) run) run).over_child ≡ is_held_over_child (cond c (Some (record { by = by; child = child })) h)
    go true = refl
    go false = is
over_by t by (Answered task answer) run h is = go (task == t)
  where
    go : (c : Bool) → (cond c (held_so false run) run).over_child ≡ is_held_over_child (cond c None h)
    go true = refl
    go false = is
over_by t by (Again task answer) run h is = go (task == t)
  where
    go : (c : Bool) → (cond c (run_again run) run).over_child ≡ is_held_over_child (cond c None h)
    go true = refl
    go false = is
over_by t by w run h is = is

-- ---- what a group makes of the journal

-- the rest of the group changes nothing
record Begun (past : List Entry) (by : ℕ) (w : What) (rest : List Entry) : Type 0 where
  counted : (t : ℕ) → count (renews t) (past ++ entry by w ∷ rest) ≡ count (renews t) past + one_if (renews t w)
  held : (t : ℕ) → holder (past ++ entry by w ∷ rest) t ≡ turned_by t (holder past t) by w

by_plain : (o : Opening) (past : List Entry) (by : ℕ) (w : What) → Begun past by w (due_after o past (entry by w))
by_plain o past by w = record { counted = counted; held = held }
  where
    due : List Entry
    due = due_after o past (entry by w)

    counted : (t : ℕ) → count (renews t) (past ++ entry by w ∷ due) ≡ count (renews t) past + one_if (renews t w)
    counted t =
        count-append (renews t) past (entry by w ∷ due)
        ∙ ap (λ (n : ℕ). count (renews t) past + n) (count_one (renews t) (entry by w) due (unrenewed_in t due (due_untasked o past by t w)))

    held : (t : ℕ) → holder (past ++ entry by w ∷ due) t ≡ turned_by t (holder past t) by w
    held t =
        holder_append past (entry by w ∷ due) t
        ∙ unturned t (turned_by t (holder past t) by w) due
        (due_names claimed (λ c j v. refl) (λ c why. refl) (λ c j l. refl) o past by w) (due_names closed (λ c j v. refl) (λ c why. refl) (λ c j l. refl) o past by w)

by_lead : (past : List Entry) (by child job task : ℕ) (name line : List ℕ) → Begun past by (Lead child job name) (entry by (Ask child job task line) ∷ [])
by_lead past by child job task name line = record {
  counted = λ t. count-append (renews t) past (pair by child job task name line);
  held = λ t. holder_append past (pair by child job task name line) t;
}

table_grows : (o : Opening) (past : List Entry) (by : ℕ) (w : What) (rest : List Entry) (runs : List Run) → Begun past by w rest → InPlace w runs → AreRuns o past runs
    → AreRuns o (past ++ entry by w ∷ rest) (runs_by w runs)
table_grows o past by w rest runs begun within are = record {
  long = long_by w runs ∙ are.long;
  renewed = λ t.
      ap (λ (r : Run). r.renewed) (kept_by w runs t within) ∙ renewed_by t w (run_in runs t)
      ∙ ap (λ (n : ℕ). n + one_if (renews t w)) (are.renewed t) ∙ sym (begun.counted t);
  over_child = λ t.
      ap (λ (r : Run). r.over_child) (kept_by w runs t within) ∙ over_by t by w (run_in runs t) (holder past t) (are.over_child t)
      ∙ ap is_held_over_child (sym (begun.held t));
}

-- ---- a claim is answered with the turn that the table says

pub claimed_step : (o : Opening) (past : List Entry) (by child task turn : ℕ) (move : Move) → least_free o past ≡ Some task → turn ≡ turn_of_task past task
    → move ≡ record { reply = TaskReply task turn; what = Some (Claim task child); due = Nothing } → IsStep past by (claim o past by child (least_free o past)) move
claimed_step o past by child task turn move least is so =
    subst (λ (free : Option ℕ). IsStep past by (claim o past by child free) move) (sym least)
    (subst (IsStep past by (claim o past by child (Some task))) (sym so) (record { reply_is = ap (TaskReply task) is; group_is = refl }))

-- ---- an entry that may come has its place

found_within : (p : ℕ → Bool) (a n t : ℕ) → is_number t (find p (range_with_len a n)) ≡ true → t < a + n
found_within p a zero t h = absurd cc
found_within p a (suc n) t h = go (p a) h (found_within p (a + 1) n t)
  where
    go : (b : Bool) → is_number t (cond b (Some a) (find p (range_with_len (a + 1) n))) ≡ true → (is_number t (find p (range_with_len (a + 1) n)) ≡ true → t < (a + 1) + n) → t < a + suc n
    go true h r = (let eq : a ≡ t = eqb-true a t h in omega (arith, eq))
    go false h r = (let less = r h in omega (arith, less))

in_place : (o : Opening) (past : List Entry) (by : ℕ) (w : What) (runs : List Run) → AreRuns o past runs → may_come o past by w ≡ true → InPlace w runs
in_place o past by (Claim task child) runs are may =
    let less = found_within (is_free o past) 1 (length o.tasks) task (both (is_number task (least_free o past)) _ may).0 in
    omega (arith, less, are.long)
in_place o past by (Again task answer) runs are may = go (nat_lt task (length runs)) refl
  where
    again : is_run_again o past task answer ≡ true
    again = (both (is_claimed_by past by task && not (has_open_job past task)) (is_run_again o past task answer) may).1

    over : is_held_over_child (holder past task) ≡ true
    over = (both (is_of_lost_child answer) (is_held_over_child (holder past task)) (both (is_of_lost_child answer && is_held_over_child (holder past task)) (nat_lt (count (renews task) past) o.again) again).0).1

    go : (b : Bool) → nat_lt task (length runs) ≡ b → task < length runs
    go true e = grind (arith, nat_tests, e)
    go false e =
        let none : run_in runs task ≡ no_run = get_or_past runs task no_run (grind (arith, nat_tests, e)) in
        absurd (let bad : false ≡ true = ap (λ (r : Run). r.over_child) (sym none) ∙ are.over_child task ∙ over in cc)
in_place o past by w runs are may = tt

countable : (o : Opening) (past : List Entry) (by : ℕ) (w : What) (runs : List Run) → o.again ≤ 8 → AreRuns o past runs → may_come o past by w ≡ true → IsCounted (Some w) runs
countable o past by (Again task answer) runs few are may =
    let again : is_run_again o past task answer ≡ true = (both (is_claimed_by past by task && not (has_open_job past task)) (is_run_again o past task answer) may).1 in
    let room : nat_lt (count (renews task) past) o.again ≡ true = (both (is_of_lost_child answer && is_held_over_child (holder past task)) (nat_lt (count (renews task) past) o.again) again).1 in
    let here : count (renews task) past < o.again = grind (arith, nat_tests, room) in
    omega (arith, here, few, are.renewed task)
countable o past by w runs few are may = tt

-- ---- the group of a step

-- the first entry has its place and can be counted, and the rest changes nothing
record Fits (past : List Entry) (by : ℕ) (w : What) (rest : List Entry) (runs : List Run) : Type 0 where
  begun : Begun past by w rest
  within : InPlace w runs
  counted : IsCounted (Some w) runs

group_fits : (o : Opening) (past : List Entry) (by : ℕ) (event : Event) (w : What) (rest : List Entry) (runs : List Run) → length past < 2 ^ 64 → o.again ≤ 8 → AreRuns o past runs
    → entry by w ∷ rest ≡ (step_of o past by event).group → Fits past by w rest runs
group_fits o past by event w rest runs few again are e = go (step_of o past by event) (step_came o past by event few) e
  where
    so : (v : What) (more : List Entry) → entry by w ∷ rest ≡ entry by v ∷ more → Fits past by v more runs → Fits past by w rest runs
    so v more same fits =
        let head : v ≡ w = sym (ap (λ (x : Entry). x.what) (first_is (entry by w) (entry by v) rest more same)) in
        subst (λ (x : What). Fits past by x rest runs) head (subst (λ (x : List Entry). Fits past by v x runs) (sym (rest_is (entry by w) (entry by v) rest more same)) fits)

    go : (s : Step) → Came o past by s → entry by w ∷ rest ≡ s.group → Fits past by w rest runs
    go s (inl none) e = absurd (let no : entry by w ∷ rest ≡ [] = e ∙ none in cc)
    go s (inr (inl some)) e =
        let may : may_come o past by some.0 ≡ true = plain_may o past by some.0 some.1 in
        so some.0 (due_after o past (entry by some.0)) (e ∙ some.2) (record {
          begun = by_plain o past by some.0;
          within = in_place o past by some.0 runs are may;
          counted = countable o past by some.0 runs again are may;
        })
    go s (inr (inr named)) e =
        so (Lead named.child named.job named.name) (entry by (Ask named.child named.job named.task named.line) ∷ []) (e ∙ named.is)
        (record { begun = by_lead past by named.child named.job named.task named.name named.line; within = tt; counted = tt })

pub runs_fit : (o : Opening) (past : List Entry) (by : ℕ) (event : Event) (what : Option What) (due : Due) (runs : List Run) → length past < 2 ^ 64 → o.again ≤ 8 → AreRuns o past runs
    → group_made past by what due ≡ (step_of o past by event).group → IsCounted what runs
runs_fit o past by event None due runs few again are e = tt
runs_fit o past by event (Some w) due runs few again are e = (group_fits o past by event w (made_by by (dues past due)) runs few again are e).counted

pub runs_grow : (o : Opening) (past : List Entry) (by : ℕ) (event : Event) (what : Option What) (due : Due) (runs : List Run) → length past < 2 ^ 64 → o.again ≤ 8 → AreRuns o past runs
    → group_made past by what due ≡ (step_of o past by event).group → AreRuns o (past ++ group_made past by what due) (runs_after what runs)
runs_grow o past by event None due runs few again are e = subst (λ (es : List Entry). AreRuns o es runs) (sym (append-nil past)) are
runs_grow o past by event (Some w) due runs few again are e =
    let fits = group_fits o past by event w (made_by by (dues past due)) runs few again are e in
    table_grows o past by w (made_by by (dues past due)) runs fits.begun fits.within are
