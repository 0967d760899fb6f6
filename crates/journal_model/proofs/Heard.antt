-- A child's lines stay in turn as the journal grows.
use Rattle.std.proofs.Common.{◌≡◌, ℕ, List, [], ◌∷◌, ◌++◌, refl, sym, ap, ◌∙◌, append_assoc, append-nil, Bool, true, false, not, ◌==◌, cond, Some, None}
use Rattle.std.specs.Prelude.{◌&&◌, ◌||◌, filter}
use Rattle.std.specs.List.{list_any, cons_option}
use Rattle.journal_model.specs.declared.entry.What.{What}
use Rattle.journal_model.specs.declared.entry.What.TheVariants.{Got}
use Rattle.journal_model.specs.declared.entry.Entry.{Entry}
use Rattle.journal_model.specs.Journal.{got_from, line_from, got_lines, asked_jobs, open_jobs, is_settled, verdict_of, has_spoken, is_tagged}
use Rattle.journal_model.specs.Legality.{is_empty}
use Rattle.journal_model.specs.Wires.{may_hear, heard_from, is_heard_in_turn}
use Rattle.journal_model.proofs.Looks.{is_asked, unsettled}
use Rattle.ann_key.proofs.Booleans.{and_assoc}
use Rattle.ann_key.proofs.Numbers.{same_number as same}
use Rattle.std.proofs.lemmas.Bool.{eqb-true as same_number}

pub heard-append : (c : ℕ) (past xs ys : List Entry) → heard_from c past (xs ++ ys) ≡ (heard_from c past xs && heard_from c (past ++ xs) ys)
heard-append c past [] ys = ap (λ (p : List Entry). heard_from c p ys) (sym (append-nil past))
heard-append c past (e ∷ xs) ys =
    let here : Bool = not (got_from c e.what) || may_hear past c in
    ap (λ (b : Bool). here && b) (heard-append c (past ++ e ∷ []) xs ys)
    ∙ sym (and_assoc here (heard_from c (past ++ e ∷ []) xs) (heard_from c ((past ++ e ∷ []) ++ xs) ys))
    ∙ ap (λ (p : List Entry). (here && heard_from c (past ++ e ∷ []) xs) && heard_from c p ys) (append_assoc past (e ∷ []) xs)

-- an entry without a line of c
no_line : (c : ℕ) (w : What) (rest : List (List ℕ)) → cons_option (line_from c w) rest ≡ [] → (got_from c w ≡ false) × (rest ≡ [])
no_line c (Got child line) rest h = go (child == c) h
  where
    go : (b : Bool) → cons_option (cond b (Some line) None) rest ≡ [] → (b ≡ false) × (rest ≡ [])
    go true h = absurd cc
    go false h = (refl, h)
no_line c w rest h = (refl, h)

silent : (c : ℕ) (past ys : List Entry) → got_lines ys c ≡ [] → heard_from c past ys ≡ true
silent c past [] h = refl
silent c past (e ∷ ys) h =
    let n = no_line c e.what (got_lines ys c) h in
    rw (n.0, silent c (past ++ e ∷ []) ys n.1) refl

-- no line of c was got after
pub heard_on : (c : ℕ) (past more : List Entry) → got_lines more c ≡ [] → is_heard_in_turn past c ≡ true → is_heard_in_turn (past ++ more) c ≡ true
heard_on c past more none h = heard-append c [] past more ∙ (rw (h, silent c past more none) refl)

-- a line was got in its turn
pub heard_got : (c by : ℕ) (line : List ℕ) (past due : List Entry) → got_lines due c ≡ [] → may_hear past c ≡ true → is_heard_in_turn past c ≡ true
    → is_heard_in_turn (past ++ record { by = by; what = Got c line } ∷ due) c ≡ true
heard_got c by line past due none may h =
    heard-append c [] past (record { by = by; what = Got c line } ∷ due)
    ∙ (rw (h, same c, may, silent c (past ++ record { by = by; what = Got c line } ∷ []) due none) refl)

-- an asked job without a verdict is open
module _ (past : List Entry) (c job : ℕ) where
  left : (jobs : List ℕ) → list_any (λ k. k == job) jobs ≡ true → is_settled past c job ≡ false → is_empty (filter (λ j. not (is_settled past c j)) jobs) ≡ false
  left [] a u = absurd cc
  left (k ∷ jobs) a u = go (k == job) refl (λ h. left jobs h u) a
    where
      go : (b : Bool) → (k == job) ≡ b → (list_any (λ j. j == job) jobs ≡ true → is_empty (filter (λ j. not (is_settled past c j)) jobs) ≡ false)
          → (b || list_any (λ j. j == job) jobs) ≡ true → is_empty (filter (λ j. not (is_settled past c j)) (k ∷ jobs)) ≡ false
      go true e r h = let s : is_settled past c k ≡ false = ap (is_settled past c) (same_number k job e) ∙ u in rw s refl
      go false e r h = by_open (is_settled past c k) (r h)
        where
          by_open : (s : Bool) → is_empty (filter (λ j. not (is_settled past c j)) jobs) ≡ false
              → is_empty (cond (not s) (k ∷ filter (λ j. not (is_settled past c j)) jobs) (filter (λ j. not (is_settled past c j)) jobs)) ≡ false
          by_open true r = r
          by_open false r = refl

  -- so its child may be heard
  pub open_hears : is_asked past c job ≡ true → verdict_of past c job ≡ None → may_hear past c ≡ true
  open_hears a none = go (has_spoken past c) (is_tagged past c)
    where
      is : is_empty (open_jobs past c) ≡ false
      is = left (asked_jobs past c) a (unsettled past c job none)

      go : (s t : Bool) → (not s || (t || not (is_empty (open_jobs past c)))) ≡ true
      go false t = refl
      go true true = refl
      go true false = rw is refl
