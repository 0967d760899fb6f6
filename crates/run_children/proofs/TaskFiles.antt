-- The files before and after each turn of a task of a run, where its desks tell theirs.
use Rattle.ann_outside.specs.Told.{DeskTold}
use Rattle.std.proofs.Common.{◌≡◌, ◌∙◌, ◌⊎◌, inl, inr, ℕ, zero, suc, ◌+◌, ◌≤◌, ◌==◌, Bool, true, false, not, List, [], ◌∷◌, ◌++◌, length, refl, sym, ap, subst, arith, append-nil, append_assoc}
use Rattle.std.specs.Prelude.{◌&&◌, ◌||◌, nat_lt, if◌then◌else◌, map, All, Option, Some, None, option_map, unwrap_or, cond}
use Rattle.std.specs.List.{cons_option}
use Rattle.std.proofs.lemmas.Bool.{and_parts, or_parts, and_parts as both, eqb-true as same_is}
use Rattle.std.proofs.lemmas.Bool.Decides.{eqb_tells, nat_tests}
use Rattle.std.proofs.lemmas.List.{map-append}
use Rattle.std.proofs.lemmas.List.Elements.{All-cons, All-nil}
use mathlib.Core.Logic.{∥∥₁_elim, ∥∥₁_map, ∥∥₁_prop}
use Rattle.ann_outside.specs.Calls.{Log, Gained, IsLogBlank}
use Rattle.ann_outside.specs.Files.{Files, AllStay, WhereTold}
use Rattle.ann_outside.specs.Played.{Played, ArePlayed}
use Rattle.ann_outside.proofs.PlayLaws.{all_stay, played_parts}
use Rattle.ann_outside.specs.declared.file_desk.Call.{Call}
use Rattle.journal_model.specs.declared.entry.What.{What}
use Rattle.journal_model.specs.declared.entry.What.TheVariants.{Claim}
use Rattle.journal_model.specs.declared.entry.Entry.{Entry}
use Rattle.journal_model.specs.declared.opening.Opening.{Opening}
use Rattle.journal_model.specs.Journal.{any, is_live, is_mute}
use Rattle.journal_model.specs.Due.{due_after}
use Rattle.journal_model.specs.Legality.{Legal, claims, count, is_claimed, is_number, is_prepared, least_free, may_come, renews, turn_of_task}
use Rattle.journal_model.proofs.Growing.{Near, Legal-induction}
use Rattle.journal_model.proofs.Looks.{entry}
use Rattle.journal_model.proofs.Working.{claimed_free, claims_counted, count-append, due_untasked, one_if, unclaimed_in}
use Rattle.task_model.specs.declared.setup.Setup.{Setup}
use Rattle.task_model.specs.declared.turn.TaskTurn.{TaskTurn}
use Rattle.crew_work.specs.Worker.Works.{TaskDone, all_calls, turns_of}
use Rattle.run_starts.specs.TaskLaws.Faithful.{Told, AreInTurn}
use Rattle.run_starts.specs.TaskLaws.ToldDesks.{AreToldFrom, IsToldAt, turn_done}
use Rattle.run_children.specs.Desks.{DesksDid, claimed_for, claims_for, desk_of}
use Rattle.run_children.specs.ToldDesks.{AreBlank, ArePlayedNow, AreToldAt, TasksAreTold}
use Rattle.ann_key.proofs.Numbers.{same_number}

-- ---- rows

-- a turn of a task, its calls, and the files before and after it
record Row : Type 0 where
  turn : TaskTurn
  calls : List Call
  before : Files
  after : Files

abbrev InTurn : List Row → Files → Files → Type 0
InTurn [] old new = AllStay old new
InTurn (row ∷ rows) old new = AllStay old row.before × Played row.calls row.before row.after × InTurn rows row.after new

-- the rows are of these tasks, one by one
abbrev AreOf : List Row → List TaskDone → Type 0
AreOf [] [] = Unit {0}
AreOf [] (r ∷ rs) = ⊥
AreOf (row ∷ rows) [] = ⊥
AreOf (row ∷ rows) (r ∷ rs) = (row.turn ≡ turn_done r) × (row.calls ≡ r.calls) × AreOf rows rs

record RowsOf (done : List TaskDone) (old new : Files) : Type 0 where
  rows : List Row
  of_tasks : AreOf rows done
  turn : InTurn rows old new

rows_of : (done : List TaskDone) (old new : Files) → Played (all_calls done) old new → RowsOf done old new
rows_of [] old new p = record { rows = []; of_tasks = tt; turn = p }
rows_of (r ∷ rs) old new p =
    let parts = played_parts r.calls (all_calls rs) old new p in
    let rest : RowsOf rs parts.0 new = rows_of rs parts.0 new parts.2 in
    record {
      rows = record { turn = turn_done r; calls = r.calls; before = old; after = parts.0 } ∷ rest.rows;
      of_tasks = (refl, refl, rest.of_tasks);
      turn = (all_stay old, parts.1, rest.turn);
    }

-- ---- what is told by rows

abbrev is_turn : TaskTurn → ℕ × ℕ → Bool
is_turn t u = u.0 == t.task && u.1 == t.turn

abbrev pair : TaskTurn → ℕ × ℕ
pair t = (t.task, t.turn)

abbrev look : TaskTurn → List Row → Option Row
look t [] = None
look t (row ∷ rows) = if is_turn t (pair row.turn) then Some row else look t rows

abbrev told_by : List Row → Told
told_by rows = record {
  calls = λ t. unwrap_or (option_map (λ (row : Row). row.calls) (look t rows)) [];
  before = λ t. unwrap_or (option_map (λ (row : Row). row.before) (look t rows)) [];
  after = λ t. unwrap_or (option_map (λ (row : Row). row.after) (look t rows)) [];
}

-- each of the rows is what is told of its turn
abbrev AreAt : List Row → List Row → Type 0
AreAt all [] = Unit {0}
AreAt all (row ∷ rows) = (look row.turn all ≡ Some row) × AreAt all rows

module _ (all : List Row) where
  calls_told : (rows : List Row) (done : List TaskDone) → AreAt all rows → AreOf rows done → All (λ (r : TaskDone). (told_by all).calls (turn_done r) ≡ r.calls) done
  calls_told [] [] at of = All-nil (λ (r : TaskDone). (told_by all).calls (turn_done r) ≡ r.calls)
  calls_told [] (r ∷ rs) at of = absurd of
  calls_told (row ∷ rows) [] at of = absurd of
  calls_told (row ∷ rows) (r ∷ rs) at of =
      All-cons (λ (x : TaskDone). (told_by all).calls (turn_done x) ≡ x.calls) r rs
      (ap (told_by all).calls (sym of.0) ∙ ap (λ (o : Option Row). unwrap_or (option_map (λ (x : Row). x.calls) o) []) at.0 ∙ of.1) (calls_told rows rs at.1 of.2)

  turn_told : (rows : List Row) (done : List TaskDone) (old new : Files) → AreAt all rows → AreOf rows done → InTurn rows old new → AreInTurn (told_by all) (map turn_done done) old new
  turn_told [] [] old new at of turn = turn
  turn_told [] (r ∷ rs) old new at of turn = absurd of
  turn_told (row ∷ rows) [] old new at of turn = absurd of
  turn_told (row ∷ rows) (r ∷ rs) old new at of turn =
      let calls : (told_by all).calls (turn_done r) ≡ row.calls = ap (told_by all).calls (sym of.0) ∙ ap (λ (o : Option Row). unwrap_or (option_map (λ (x : Row). x.calls) o) []) at.0 in
      let before : (told_by all).before (turn_done r) ≡ row.before = ap (told_by all).before (sym of.0) ∙ ap (λ (o : Option Row). unwrap_or (option_map (λ (x : Row). x.before) o) []) at.0 in
      let after : (told_by all).after (turn_done r) ≡ row.after = ap (told_by all).after (sym of.0) ∙ ap (λ (o : Option Row). unwrap_or (option_map (λ (x : Row). x.after) o) []) at.0 in (
        subst (AllStay old) (sym before) turn.0,
        subst (λ (cs : List Call). Played cs ((told_by all).before (turn_done r)) ((told_by all).after (turn_done r))) (sym calls)
            (subst (λ (x : Files). Played row.calls x ((told_by all).after (turn_done r))) (sym before) (subst (Played row.calls row.before) (sym after) turn.1)),
        subst (λ (x : Files). AreInTurn (told_by all) (map turn_done rs) x new) (sym after) (turn_told rows rs row.after new at.1 of.2 turn.2),
      )

-- ---- turns that occur once

abbrev occurs : TaskTurn → List (ℕ × ℕ) → ℕ
occurs t [] = 0
occurs t (u ∷ us) = one_if (is_turn t u) + occurs t us

abbrev turns_in : List Row → List (ℕ × ℕ)
turns_in rows = map (λ (row : Row). pair row.turn) rows

abbrev IsAmong : Row → List Row → Type 0
IsAmong row [] = ⊥
IsAmong row (x ∷ xs) = (x ≡ row) ⊎ IsAmong row xs

same_turn : (t : TaskTurn) → is_turn t (pair t) ≡ true
same_turn t = rw (same_number t.task, same_number t.turn) refl

occurs_there : (row : Row) (rows : List Row) → IsAmong row rows → 1 ≤ occurs row.turn (turns_in rows)
occurs_there row [] h = absurd h
occurs_there row (x ∷ xs) (inl e) =
    let one : one_if (is_turn row.turn (pair x.turn)) ≡ 1 = ap one_if (ap (λ (y : Row). is_turn row.turn (pair y.turn)) e ∙ same_turn row.turn) in
    omega (arith, one)
occurs_there row (x ∷ xs) (inr h) = let later = occurs_there row xs h in omega (arith, later)

look_there : (row : Row) (rows : List Row) → occurs row.turn (turns_in rows) ≤ 1 → IsAmong row rows → look row.turn rows ≡ Some row
look_there row [] few h = absurd h
look_there row (x ∷ xs) few h = by_test (is_turn row.turn (pair x.turn)) refl h (look_there row xs)
  where
    by_test : (b : Bool) → is_turn row.turn (pair x.turn) ≡ b → IsAmong row (x ∷ xs) → (occurs row.turn (turns_in xs) ≤ 1 → IsAmong row xs → look row.turn xs ≡ Some row) → (if b then Some x else look row.turn xs) ≡ Some row
    by_test true e (inl is) k = ap (λ (y : Row). Some y) is
    by_test true e (inr in_xs) k =
        let one : one_if (is_turn row.turn (pair x.turn)) ≡ 1 = ap one_if e in
        let more = occurs_there row xs in_xs in
        absurd (omega (arith, one, more, few))
    by_test false e (inl is) k = absurd (let t : is_turn row.turn (pair x.turn) ≡ true = ap (λ (y : Row). is_turn row.turn (pair y.turn)) is ∙ same_turn row.turn in let bad : true ≡ false = sym t ∙ e in cc)
    by_test false e (inr in_xs) k = let less : occurs row.turn (turns_in xs) ≤ 1 = omega (arith, few) in k less in_xs

all_at : (all rows : List Row) → ((t : TaskTurn) → occurs t (turns_in all) ≤ 1) → ((row : Row) → IsAmong row rows → IsAmong row all) → AreAt all rows
all_at all [] few among = tt
all_at all (row ∷ rows) few among = (look_there row all (few row.turn) (among row (inl refl)), all_at all rows few (λ x h. among x (inr h)))

occurs_both : (t : TaskTurn) (xs ys : List (ℕ × ℕ)) → occurs t (xs ++ ys) ≡ occurs t xs + occurs t ys
occurs_both t [] ys = omega arith
occurs_both t (x ∷ xs) ys = let rest = occurs_both t xs ys in omega (arith, rest)

among_left : (row : Row) (xs ys : List Row) → IsAmong row xs → IsAmong row (xs ++ ys)
among_left row [] ys h = absurd h
among_left row (x ∷ xs) ys (inl e) = inl e
among_left row (x ∷ xs) ys (inr h) = inr (among_left row xs ys h)

among_right : (row : Row) (xs ys : List Row) → IsAmong row ys → IsAmong row (xs ++ ys)
among_right row [] ys h = h
among_right row (x ∷ xs) ys h = inr (among_right row xs ys h)

-- ---- claims of all desks

-- how often n desks, from the kth on, were used for this turn of a task
abbrev used : ℕ → ℕ → List Entry → List Entry → TaskTurn → ℕ
used zero k past entries t = 0
used (suc n) k past entries t = occurs t (claims_for k past entries) + used n (k + 1) past entries t

used_none : (n k : ℕ) (past : List Entry) (t : TaskTurn) → used n k past [] t ≡ 0
used_none zero k past t = refl
used_none (suc n) k past t = let later = used_none n (k + 1) past t in omega (arith, later)

occurs_cons : (t : TaskTurn) (o : Option (ℕ × ℕ)) (us : List (ℕ × ℕ)) → occurs t (cons_option o us) ≡ occurs t (cons_option o []) + occurs t us
occurs_cons t None us = omega arith
occurs_cons t (Some u) us = omega arith

-- how often they were by one entry
abbrev hits : ℕ → ℕ → List Entry → ℕ → What → TaskTurn → ℕ
hits zero k past by w t = 0
hits (suc n) k past by w t = occurs t (cons_option (claimed_for k past by w) []) + hits n (k + 1) past by w t

used_cons : (n k : ℕ) (past : List Entry) (e : Entry) (rest : List Entry) (t : TaskTurn) → used n k past (e ∷ rest) t ≡ hits n k past e.by e.what t + used n k (past ++ e ∷ []) rest t
used_cons zero k past e rest t = refl
used_cons (suc n) k past e rest t =
    let here = occurs_cons t (claimed_for k past e.by e.what) (claims_for k (past ++ e ∷ []) rest) in
    let later = used_cons n (k + 1) past e rest t in
    omega (arith, here, later)

-- the entry claims this turn
abbrev is_claim_of : TaskTurn → List Entry → What → Bool
is_claim_of t past (Claim task child) = is_turn t (task, turn_of_task past task)
is_claim_of t past w = false

no_hit : (n k : ℕ) (past : List Entry) (by : ℕ) (w : What) (t : TaskTurn) → is_claim_of t past w ≡ false → hits n k past by w t ≡ 0
no_hit zero k past by w t h = refl
no_hit (suc n) k past by w t h = let here = one w h in let later = no_hit n (k + 1) past by w t h in omega (arith, here, later)
  where
    one : (v : What) → is_claim_of t past v ≡ false → occurs t (cons_option (claimed_for k past by v) []) ≡ 0
    one (Claim task child) h = by_desk (desk_of past by child == k)
      where
        by_desk : (b : Bool) → occurs t (cons_option (if b then Some (task, turn_of_task past task) else None) []) ≡ 0
        by_desk true = ap (λ (b : Bool). one_if b + 0) h
        by_desk false = refl
    one v h = refl

-- a later desk isn't that of a claim for an earlier one
late_hit : (n k : ℕ) (past : List Entry) (by task child : ℕ) (t : TaskTurn) → suc (desk_of past by child) ≤ k → hits n k past by (Claim task child) t ≡ 0
late_hit zero k past by task child t late = refl
late_hit (suc n) k past by task child t late =
    let other : (desk_of past by child == k) ≡ false = elim (eqb_tells (desk_of past by child) k) [ inl h ↦ absurd (let same = h.1 in omega (arith, same, late)) | inr h ↦ h.0 ] in
    let here : occurs t (cons_option (claimed_for k past by (Claim task child)) []) ≡ 0 = ap (λ (b : Bool). occurs t (cons_option (if b then Some (task, turn_of_task past task) else None) [])) other in
    let more : suc (desk_of past by child) ≤ k + 1 = omega (arith, late) in
    let later = late_hit n (k + 1) past by task child t more in
    omega (arith, here, later)

at_most_one : (b : Bool) → one_if b ≤ 1
at_most_one true = omega arith
at_most_one false = omega arith

one_hit : (n k : ℕ) (past : List Entry) (by task child : ℕ) (t : TaskTurn) → hits n k past by (Claim task child) t ≤ 1
one_hit zero k past by task child t = omega arith
one_hit (suc n) k past by task child t = by_desk (desk_of past by child == k) refl (one_hit n (k + 1) past by task child t)
  where
    by_desk : (b : Bool) → (desk_of past by child == k) ≡ b → hits n (k + 1) past by (Claim task child) t ≤ 1
        → occurs t (cons_option (if b then Some (task, turn_of_task past task) else None) []) + hits n (k + 1) past by (Claim task child) t ≤ 1
    by_desk true e h =
        let same : desk_of past by child ≡ k = elim (eqb_tells (desk_of past by child) k) [ inl x ↦ x.1 | inr x ↦ absurd (let bad : true ≡ false = sym e ∙ x.0 in cc) ] in
        let late : suc (desk_of past by child) ≤ k + 1 = omega (arith, same) in
        let none = late_hit n (k + 1) past by task child t late in
        let one = at_most_one (is_turn t (task, turn_of_task past task)) in
        omega (arith, none, one)
    by_desk false e h = omega (arith, h)

-- how often the entries, which stand after past, claim this turn
abbrev claims_of : TaskTurn → List Entry → List Entry → ℕ
claims_of t past [] = 0
claims_of t past (e ∷ rest) = one_if (is_claim_of t past e.what) + claims_of t (past ++ e ∷ []) rest

used_few : (n k : ℕ) (past entries : List Entry) (t : TaskTurn) → used n k past entries t ≤ claims_of t past entries
used_few n k past [] t = let none = used_none n k past t in omega (arith, none)
used_few n k past (e ∷ rest) t = by_what (is_claim_of t past e.what) refl (used_few n k (past ++ e ∷ []) rest t)
  where
    by_what : (b : Bool) → is_claim_of t past e.what ≡ b → used n k (past ++ e ∷ []) rest t ≤ claims_of t (past ++ e ∷ []) rest → used n k past (e ∷ rest) t ≤ one_if b + claims_of t (past ++ e ∷ []) rest
    by_what false h few =
        let here = no_hit n k past e.by e.what t h in
        let sum = used_cons n k past e rest t in
        omega (arith, here, sum, few)
    by_what true h few =
        let here = of_claim e.what h in
        let sum = used_cons n k past e rest t in
        omega (arith, here, sum, few)
      where
        of_claim : (w : What) → is_claim_of t past w ≡ true → hits n k past e.by w t ≤ 1
        of_claim (Claim task child) c = one_hit n k past e.by task child t
        of_claim w c = absurd cc

-- ---- in a legal journal a turn is claimed once

-- each claim of the task stands where it was claimed as often as it was to be run again
abbrev are_in_step : ℕ → List Entry → List Entry → Bool
are_in_step u past [] = true
are_in_step u past (e ∷ rest) = (not (claims u e.what) || count (claims u) past == count (renews u) past) && are_in_step u (past ++ e ∷ []) rest

step-append : (u : ℕ) (past xs ys : List Entry) → are_in_step u past xs ≡ true → are_in_step u (past ++ xs) ys ≡ true → are_in_step u past (xs ++ ys) ≡ true
step-append u past [] ys h k = subst (λ (p : List Entry). are_in_step u p ys ≡ true) (append-nil past) k
step-append u past (e ∷ xs) ys h k =
    let parts = and_parts (not (claims u e.what) || count (claims u) past == count (renews u) past) (are_in_step u (past ++ e ∷ []) xs) h in
    let one : (not (claims u e.what) || count (claims u) past == count (renews u) past) ≡ true = parts.0 in
    let rest : are_in_step u (past ++ e ∷ []) (xs ++ ys) ≡ true =
    step-append u (past ++ e ∷ []) xs ys parts.1 (subst (λ (p : List Entry). are_in_step u p ys ≡ true) (sym (append_assoc past (e ∷ []) xs)) k) in
    rw (one, rest) refl

none_steps : (u : ℕ) (past xs : List Entry) → any (claims u) xs ≡ false → are_in_step u past xs ≡ true
none_steps u past [] h = refl
none_steps u past (e ∷ xs) h =
    let parts = or_parts (claims u e.what) (any (claims u) xs) h in
    let one : claims u e.what ≡ false = parts.0 in
    let rest : are_in_step u (past ++ e ∷ []) xs ≡ true = none_steps u (past ++ e ∷ []) xs parts.1 in
    rw (one, rest) refl

all_step : (o : Opening) (journal : List Entry) (u : ℕ) → Legal o journal → are_in_step u [] journal ≡ true
all_step o journal u legal = Legal-induction o (λ p. are_in_step u [] p ≡ true) refl (λ past e l before may. step past e.by e.what l before may) journal legal
  where
    step : (past : List Entry) (by : ℕ) (w : What) → Near o past → are_in_step u [] past ≡ true → may_come o past by w ≡ true → are_in_step u [] (past ++ entry by w ∷ due_after o past (entry by w)) ≡ true
    step past by w l before may =
        let own : (not (claims u w) || count (claims u) past == count (renews u) past) ≡ true = of_what w may in
        let due : are_in_step u (past ++ entry by w ∷ []) (due_after o past (entry by w)) ≡ true =
        none_steps u (past ++ entry by w ∷ []) (due_after o past (entry by w)) (unclaimed_in u (due_after o past (entry by w)) (due_untasked o past by u w)) in
        step-append u [] past (entry by w ∷ due_after o past (entry by w)) before (rw (own, due) refl)
      where
        of_what : (v : What) → may_come o past by v ≡ true → (not (claims u v) || count (claims u) past == count (renews u) past) ≡ true
        of_what (Claim task child) m = by_test (task == u) refl
          where
            by_test : (b : Bool) → (task == u) ≡ b → (not b || count (claims u) past == count (renews u) past) ≡ true
            by_test false e = refl
            by_test true e =
                let s = both (is_number task (least_free o past)) ((child == 0 && by == 0) || (is_prepared past child && is_live past child && not (is_mute past child))) m in
                let free : is_claimed past u ≡ false = subst (λ (x : ℕ). is_claimed past x ≡ false) (same_is task u e) (claimed_free o past task (least_free o past) refl s.0) in
                let sum = claims_counted o past l u in
                let none : one_if (is_claimed past u) ≡ 0 = ap one_if free in
                let counted : count (claims u) past ≡ count (renews u) past = omega (arith, sum, none) in
                subst (λ (n : ℕ). (count (claims u) past == n) ≡ true) counted (same_number (count (claims u) past))
        of_what v m = refl

not_below : (a b n : ℕ) → a ≡ b + 1 → 1 + b ≡ n → nat_lt a n ≡ false
not_below a b n x y = grind (arith, nat_tests)

is_below : (b n : ℕ) → 1 + b ≡ n → nat_lt b n ≡ true
is_below b n y = grind (arith, nat_tests)

earlier : (a b n : ℕ) → b ≤ a → nat_lt a n ≡ true → nat_lt b n ≡ true
earlier a b n x y = grind (arith, nat_tests)

once : (t : TaskTurn) (past entries : List Entry) → are_in_step t.task past entries ≡ true → claims_of t past entries ≤ one_if (nat_lt (count (claims t.task) past) t.turn)
once t past [] h = omega arith
once t past (e ∷ rest) h =
    let parts = and_parts (not (claims t.task e.what) || count (claims t.task) past == count (renews t.task) past) (are_in_step t.task (past ++ e ∷ []) rest) h in
    by_what (is_claim_of t past e.what) refl parts.0 (once t (past ++ e ∷ []) rest parts.1)
  where
    more : ℕ
    more = claims_of t (past ++ e ∷ []) rest

    before : ℕ
    before = count (claims t.task) past

    after : ℕ
    after = count (claims t.task) (past ++ e ∷ [])

    grown : after ≡ before + length (cond (claims t.task e.what) (e ∷ []) [])
    grown = count-append (claims t.task) past (e ∷ [])

    of_claim : (w : What) → is_claim_of t past w ≡ true → (not (claims t.task w) || before == count (renews t.task) past) ≡ true → (claims t.task w ≡ true) × (1 + before ≡ t.turn)
    of_claim (Claim task child) x s =
        let parts = and_parts (task == t.task) (turn_of_task past task == t.turn) x in
        let named : (task == t.task) ≡ true = parts.0 in
        let own : (before == count (renews t.task) past) ≡ true = subst (λ (b : Bool). (not b || before == count (renews t.task) past) ≡ true) named s in
        let level : before ≡ count (renews t.task) past = same_is before (count (renews t.task) past) own in
        let turn : turn_of_task past t.task ≡ t.turn = subst (λ (n : ℕ). turn_of_task past n ≡ t.turn) (same_is task t.task named) (same_is (turn_of_task past task) t.turn parts.1) in
        (named, ap (λ (n : ℕ). 1 + n) level ∙ turn)
    of_claim w x s = absurd cc

    later : before ≤ after → more ≤ one_if (nat_lt after t.turn) → more ≤ one_if (nat_lt before t.turn)
    later l k = by_test (nat_lt after t.turn) refl k
      where
        by_test : (b : Bool) → nat_lt after t.turn ≡ b → more ≤ one_if b → more ≤ one_if (nat_lt before t.turn)
        by_test false x y = omega (arith, y)
        by_test true x y = subst (λ (b : Bool). more ≤ one_if b) (sym (earlier after before t.turn l x)) y

    by_what : (b : Bool) → is_claim_of t past e.what ≡ b → (not (claims t.task e.what) || before == count (renews t.task) past) ≡ true → more ≤ one_if (nat_lt after t.turn)
        → one_if b + more ≤ one_if (nat_lt before t.turn)
    by_what false x s k = (let less = later (omega (arith, grown)) k in omega (arith, less))
    by_what true x s k =
        let c = of_claim e.what x s in
        let one : after ≡ before + 1 = grown ∙ ap (λ (b : Bool). before + length (cond b (e ∷ []) [])) c.0 in
        let none : more ≤ 0 = subst (λ (b : Bool). more ≤ one_if b) (not_below after before t.turn one c.1) k in
        subst (λ (b : Bool). 1 + more ≤ one_if b) (sym (is_below before t.turn c.1)) (omega (arith, none))

-- ---- the desks

-- the files that the desk's log begins with
abbrev begun : Option Log → Option Files
begun None = None
begun (Some log) = log.origin

-- the rows of a desk's tasks, where its files at first and in the end are told
abbrev DeskRows : List TaskDone → Option Files → Option Files → Type 0
DeskRows done (Some old) (Some new) = RowsOf done old new
DeskRows done (Some old) None = Unit {0}
DeskRows done None now = Unit {0}

abbrev rows_in : (done : List TaskDone) (origin now : Option Files) → DeskRows done origin now → List Row
rows_in done (Some old) (Some new) d = d.rows
rows_in done (Some old) None d = []
rows_in done None now d = []

tasks_same : (rows : List Row) (done : List TaskDone) → AreOf rows done → turns_in rows ≡ turns_of done
tasks_same [] [] of = refl
tasks_same [] (r ∷ rs) of = absurd of
tasks_same (row ∷ rows) [] of = absurd of
tasks_same (row ∷ rows) (r ∷ rs) of = ap (λ (t : TaskTurn). pair t ∷ turns_in rows) of.0 ∙ ap (λ (ts : List (ℕ × ℕ)). (r.task, r.turn) ∷ ts) (tasks_same rows rs of.2)

few_in : (done : List TaskDone) (origin now : Option Files) (d : DeskRows done origin now) (t : TaskTurn) → occurs t (turns_in (rows_in done origin now d)) ≤ occurs t (turns_of done)
few_in done (Some old) (Some new) d t = let same : occurs t (turns_in d.rows) ≡ occurs t (turns_of done) = ap (occurs t) (tasks_same d.rows done d.of_tasks) in omega (arith, same)
few_in done (Some old) None d t = omega arith
few_in done None now d t = omega arith

desk_told : (all : List Row) (done : List TaskDone) (log : Option Log) (now : Option Files) (d : DeskRows done (begun log) now) → AreAt all (rows_in done (begun log) now d) → IsToldAt (told_by all) done log now
desk_told all done None now d at = tt
desk_told all done (Some log) now d at = by_origin log.origin now d at
  where
    by_origin : (o n : Option Files) (x : DeskRows done o n) → AreAt all (rows_in done o n x) → AreToldFrom (told_by all) done o n
    by_origin (Some old) (Some new) x h = record { calls = calls_told all x.rows done h x.of_tasks; turn = turn_told all x.rows done old new h x.of_tasks x.turn }
    by_origin (Some old) None x h = tt
    by_origin None n x h = tt

desk_row : (done : List TaskDone) (log log' : Option Log) (now : Option Files) → IsLogBlank log → Gained log log' (all_calls done) → ArePlayed log' now → DeskRows done (begun log') now
desk_row done None log' now blank g p = subst (λ (x : Option Log). DeskRows done (begun x) now) (sym g) tt
desk_row done (Some log) log' now blank g p =
    subst (λ (x : Option Log). DeskRows done (begun x) now) (sym is) (by_origin log.origin now (subst (λ (x : Option Log). ArePlayed x now) is p))
  where
    is : log' ≡ Some (record { origin = log.origin; calls = all_calls done })
    is = g ∙ ap (option_map {U = Log} (λ (told : Log). record { origin = told.origin; calls = told.calls ++ all_calls done })) blank

    by_origin : (o n : Option Files) → WhereTold o n (Played (all_calls done)) → DeskRows done o n
    by_origin (Some old) (Some new) h = rows_of done old new h
    by_origin (Some old) None h = tt
    by_origin None n h = tt

module _ (o : Opening) (setup : Setup) (limit : ℕ) (journal : List Entry) where
  abbrev RowsAt : (past entries : List Entry) (k : ℕ) (ds es : List DeskTold) → DesksDid o setup limit journal past entries k ds es → List (Option Files) → Type 0
  RowsAt past entries k [] [] did files = Unit {0}
  RowsAt past entries k [] (e ∷ es) did files = Unit {0}
  RowsAt past entries k (d ∷ ds) [] did files = Unit {0}
  RowsAt past entries k (d ∷ ds) (e ∷ es) did [] = Unit {0}
  RowsAt past entries k (d ∷ ds) (e ∷ es) did (now ∷ more) = DeskRows did.0.done (begun e.log) now × RowsAt past entries (k + 1) ds es did.1 more

  abbrev all_rows : (past entries : List Entry) (k : ℕ) (ds es : List DeskTold) (did : DesksDid o setup limit journal past entries k ds es) (files : List (Option Files)) → RowsAt past entries k ds es did files → List Row
  all_rows past entries k [] [] did files r = []
  all_rows past entries k [] (e ∷ es) did files r = []
  all_rows past entries k (d ∷ ds) [] did files r = []
  all_rows past entries k (d ∷ ds) (e ∷ es) did [] r = []
  all_rows past entries k (d ∷ ds) (e ∷ es) did (now ∷ more) r = rows_in did.0.done (begun e.log) now r.0 ++ all_rows past entries (k + 1) ds es did.1 more r.1

  few_rows : (past entries : List Entry) (k : ℕ) (ds es : List DeskTold) (did : DesksDid o setup limit journal past entries k ds es) (files : List (Option Files)) (r : RowsAt past entries k ds es did files) (t : TaskTurn)
      → occurs t (turns_in (all_rows past entries k ds es did files r)) ≤ used (length ds) k past entries t
  few_rows past entries k [] [] did files r t = omega arith
  few_rows past entries k [] (e ∷ es) did files r t = omega arith
  few_rows past entries k (d ∷ ds) [] did files r t = absurd did
  few_rows past entries k (d ∷ ds) (e ∷ es) did [] r t = omega arith
  few_rows past entries k (d ∷ ds) (e ∷ es) did (now ∷ more) r t =
      let here = few_in did.0.done (begun e.log) now r.0 t in
      let own : occurs t (turns_of did.0.done) ≡ occurs t (claims_for k past entries) = ap (occurs t) did.0.claimed in
      let later = few_rows past entries (k + 1) ds es did.1 more r.1 t in
      let sum : occurs t (turns_in (all_rows past entries k (d ∷ ds) (e ∷ es) did (now ∷ more) r)) ≡ occurs t (turns_in (rows_in did.0.done (begun e.log) now r.0)) + occurs t (turns_in (all_rows past entries (k + 1) ds es did.1 more r.1)) =
      ap (occurs t) (map-append (λ (row : Row). pair row.turn) (rows_in did.0.done (begun e.log) now r.0) (all_rows past entries (k + 1) ds es did.1 more r.1))
      ∙ occurs_both t (turns_in (rows_in did.0.done (begun e.log) now r.0)) (turns_in (all_rows past entries (k + 1) ds es did.1 more r.1)) in
      omega (arith, here, own, later, sum)

  all_told : (all : List Row) → ((t : TaskTurn) → occurs t (turns_in all) ≤ 1) → (past entries : List Entry) (k : ℕ) (ds es : List DeskTold) (did : DesksDid o setup limit journal past entries k ds es) (files : List (Option Files))
      → (r : RowsAt past entries k ds es did files) → ((row : Row) → IsAmong row (all_rows past entries k ds es did files r) → IsAmong row all) → AreToldAt (told_by all) o setup limit journal past entries k ds es did files
  all_told all few past entries k [] [] did files r among = tt
  all_told all few past entries k [] (e ∷ es) did files r among = tt
  all_told all few past entries k (d ∷ ds) [] did files r among = tt
  all_told all few past entries k (d ∷ ds) (e ∷ es) did [] r among = tt
  all_told all few past entries k (d ∷ ds) (e ∷ es) did (now ∷ more) r among = (
    desk_told all did.0.done e.log now r.0
        (all_at all (rows_in did.0.done (begun e.log) now r.0) few (λ row h. among row (among_left row (rows_in did.0.done (begun e.log) now r.0) (all_rows past entries (k + 1) ds es did.1 more r.1) h))),
    all_told all few past entries (k + 1) ds es did.1 more r.1 (λ row h. among row (among_right row (rows_in did.0.done (begun e.log) now r.0) (all_rows past entries (k + 1) ds es did.1 more r.1) h)),
  )

  rows_at : (past entries : List Entry) (k : ℕ) (ds es : List DeskTold) (did : DesksDid o setup limit journal past entries k ds es) (files : List (Option Files)) → AreBlank ds → ArePlayedNow es files
      → ∥ RowsAt past entries k ds es did files ∥₁
  rows_at past entries k [] [] did files blank played = ∣ tt ∣₁
  rows_at past entries k [] (e ∷ es) did files blank played = ∣ tt ∣₁
  rows_at past entries k (d ∷ ds) [] did files blank played = ∣ tt ∣₁
  rows_at past entries k (d ∷ ds) (e ∷ es) did [] blank played = ∣ tt ∣₁
  rows_at past entries k (d ∷ ds) (e ∷ es) did (now ∷ more) blank played =
      let later : ∥ RowsAt past entries (k + 1) ds es did.1 more ∥₁ = rows_at past entries (k + 1) ds es did.1 more blank.1 played.1 in
      ∥∥₁_elim played.0 ∥∥₁_prop (λ p. ∥∥₁_map later (λ rest. (desk_row did.0.done d.log e.log now blank.0 did.0.log_is p, rest)))

pub tasks_are_told : TasksAreTold
tasks_are_told o setup limit journal desks desks' files legal blank did played =
    ∥∥₁_map (rows_at o setup limit journal [] journal 1 desks desks' did files blank played) (λ r. (
      told_by (all_rows o setup limit journal [] journal 1 desks desks' did files r),
      all_told o setup limit journal (all_rows o setup limit journal [] journal 1 desks desks' did files r)
          (λ t. let few = few_rows o setup limit journal [] journal 1 desks desks' did files r t in let all = used_few (length desks) 1 [] journal t in let single = once t [] journal (all_step o journal t.task legal) in let one = at_most_one (nat_lt (count (claims t.task) []) t.turn) in omega (arith, few, all, single, one))
          [] journal 1 desks desks' did files r (λ row h. h),
    ))
