-- The turns that a number takes along a stretch of entries.
use Rattle.std.proofs.Common.{◌≡◌, ℕ, List, [], ◌∷◌, ◌++◌, refl, sym, ap, ◌∙◌, Bool, true, false, ◌==◌, cond, None, Option, append_assoc, append-nil}
use Rattle.std.specs.Prelude.{◌&&◌, ◌||◌}
use Rattle.std.specs.List.{list_any, cons_option}
use Rattle.std.proofs.lemmas.List.Folds.{list_any-append}
use Rattle.journal_model.specs.declared.entry.What.{What}
use Rattle.journal_model.specs.declared.entry.What.TheVariants.{Claim}
use Rattle.journal_model.specs.declared.entry.Entry.{Entry}
use Rattle.journal_model.specs.Legality.{claims, turn_of_task}
use Rattle.journal_model.specs.Makers.{is_taken_by}
use Rattle.journal_model.specs.Shares.{are_others}
use Rattle.journal_model.proofs.Holders.{others_untaken}
use Rattle.crew_work.specs.Laws.Tasks.{claimed_turn, turns_by, takes_turn}
use Rattle.ann_key.proofs.Lists.{cons_append}
use Rattle.ann_key.proofs.Booleans.{left_false as either_left, right_false as either_right, true_and_false as true_not_false, or_false}
use Rattle.ann_key.proofs.Numbers.{same_number as same}

-- the turn that the entry gives the number, where it stands after past
abbrev turn_by : ℕ → List Entry → Entry → Option (ℕ × ℕ)
turn_by n past e = cond (e.by == n) (claimed_turn past e.what) None

pub turns_by-append : (n : ℕ) (past xs ys : List Entry) → turns_by n past (xs ++ ys) ≡ turns_by n past xs ++ turns_by n (past ++ xs) ys
turns_by-append n past [] ys = ap (λ (p : List Entry). turns_by n p ys) (sym (append-nil past))
turns_by-append n past (e ∷ xs) ys =
    ap (cons_option (turn_by n past e))
    (turns_by-append n (past ++ e ∷ []) xs ys ∙ ap (λ (p : List Entry). turns_by n (past ++ e ∷ []) xs ++ turns_by n p ys) (append_assoc past (e ∷ []) xs))
    ∙ cons_append (turn_by n past e) (turns_by n (past ++ e ∷ []) xs) (turns_by n (past ++ e ∷ xs) ys)

abbrev pub is_turn : ℕ → ℕ → ℕ × ℕ → Bool
is_turn t k u = u.0 == t && u.1 == k

pub takes_turn-append : (past xs ys : List Entry) (n t k : ℕ) → takes_turn past (xs ++ ys) n t k ≡ (takes_turn past xs n t k || takes_turn (past ++ xs) ys n t k)
takes_turn-append past xs ys n t k =
    ap (list_any (is_turn t k)) (turns_by-append n past xs ys) ∙ list_any-append (is_turn t k) (turns_by n past xs) (turns_by n (past ++ xs) ys)

-- ---- none

-- who claims nothing takes no turn
pub untaken_turns : (n : ℕ) (past xs : List Entry) → ((t : ℕ) → is_taken_by xs n t ≡ false) → turns_by n past xs ≡ []
untaken_turns n past [] h = refl
untaken_turns n past (e ∷ xs) h =
    ap (λ (o : Option (ℕ × ℕ)). cons_option o (turns_by n (past ++ e ∷ []) xs)) (step (e.by == n) e.what (λ t. either_left (e.by == n && claims t e.what) (is_taken_by xs n t) (h t)))
    ∙ untaken_turns n (past ++ e ∷ []) xs (λ t. either_right (e.by == n && claims t e.what) (is_taken_by xs n t) (h t))
  where
    step : (b : Bool) (w : What) → ((t : ℕ) → (b && claims t w) ≡ false) → cond b (claimed_turn past w) None ≡ None
    step false w k = refl
    step true (Claim task child) k = true_not_false (task == task) (same task) (k task)
    step true w k = refl

pub others_turns : (n : ℕ) (past xs : List Entry) → are_others n xs ≡ true → turns_by n past xs ≡ []
others_turns n past xs h = untaken_turns n past xs (λ t. others_untaken n t xs h)

-- what stands after with no turn of the number gives it none
pub turn_before : (past xs ys : List Entry) (n t k : ℕ) → turns_by n (past ++ xs) ys ≡ [] → takes_turn past (xs ++ ys) n t k ≡ takes_turn past xs n t k
turn_before past xs ys n t k none =
    takes_turn-append past xs ys n t k ∙ ap (λ (us : List (ℕ × ℕ)). takes_turn past xs n t k || list_any (is_turn t k) us) none ∙ or_false (takes_turn past xs n t k)

-- ---- some

-- a claim takes the task's turn that comes next
pub claim_turns : (n : ℕ) (past : List Entry) (t child : ℕ) → turns_by n past (record { by = n; what = Claim t child } ∷ []) ≡ (t, turn_of_task past t) ∷ []
claim_turns n past t child = rw (same n) refl

-- who takes a turn makes an entry
pub turn_made : (n : ℕ) (past xs : List Entry) (t k : ℕ) → takes_turn past xs n t k ≡ true → list_any (λ e. e.by == n) xs ≡ true
turn_made n past [] t k h = absurd cc
turn_made n past (e ∷ xs) t k h = go (e.by == n) h (turn_made n (past ++ e ∷ []) xs t k)
  where
    go : (b : Bool) → list_any (is_turn t k) (cons_option (cond b (claimed_turn past e.what) None) (turns_by n (past ++ e ∷ []) xs)) ≡ true
        → (takes_turn (past ++ e ∷ []) xs n t k ≡ true → list_any (λ x. x.by == n) xs ≡ true) → (b || list_any (λ x. x.by == n) xs) ≡ true
    go true h r = refl
    go false h r = r h
