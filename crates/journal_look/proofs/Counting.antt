-- The lines that were written to a child, counted as far as a cursor.
use Rattle.std.proofs.Common.{◌≡◌, ◌∙◌, ℕ, zero, suc, ◌+◌, ◌-◌, ◌<◌, ◌≤◌, List, [], ◌∷◌, ◌++◌, refl, sym, ap, subst, Bool, true, false, not, cond, Some, length, length-append, take, drop, arith}
use Rattle.std.specs.Prelude.{◌==◌, filter, find, slice_get}
use Rattle.std.specs.List.{prefix_len}
use Rattle.std.proofs.Math.Seq.{take-add}
use Rattle.std.proofs.lemmas.List.{take-append-drop, take-append-le, length-drop}
use Rattle.std.proofs.lemmas.List.Elements.{All-head, All-tail, All-weaker, filter-append}
use Rattle.journal_model.specs.declared.entry.Entry.{Entry}
use Rattle.journal_scan.specs.Looks.{is_written}
use Rattle.journal_look.specs.declared.cursors.Cursor.{Cursor}
use Rattle.journal_look.specs.Cursors.{AreAt, IsAt}
use Rattle.std.proofs.lemmas.Bool.{eqb-true as same_number}

get_behind : {X : Type 0} (xs ys : List X) (n : ℕ) → length xs ≤ n → slice_get (xs ++ ys) n ≡ slice_get ys (n - length xs)
get_behind [] ys n long = let same : n - 0 ≡ n = omega arith in rw same refl
get_behind (x ∷ xs) ys zero long = absurd (omega arith)
get_behind (x ∷ xs) ys (suc n) long = let same : suc n - suc (length xs) ≡ n - length xs = omega arith in rw same (get_behind xs ys n (omega arith))

-- what the first entries have is left out
skipped : {X : Type 0} (p : X → Bool) (xs : List X) (k n m : ℕ) → length (filter p (take k xs)) ≡ m → m ≤ n → slice_get (filter p (drop k xs)) (n - m) ≡ slice_get (filter p xs) n
skipped {X = X} p xs k n m count few =
    let parts : filter p xs ≡ filter p (take k xs) ++ filter p (drop k xs) = ap (filter p) (sym (take-append-drop k xs)) ∙ filter-append p (take k xs) (drop k xs) in
    ap (λ (i : ℕ). slice_get (filter p (drop k xs)) (n - i)) (sym count)
    ∙ sym (get_behind (filter p (take k xs)) (filter p (drop k xs)) n (subst (λ (i : ℕ). i ≤ n) (sym count) few))
    ∙ ap (λ (l : List X). slice_get l n) (sym parts)

pub unsent_by_cursor : (past : List Entry) (x : Cursor) (n : ℕ) → IsAt past x → x.passed ≤ n
    → slice_get (filter (λ (e : Entry). is_written x.child e.what) (drop x.from past)) (n - x.passed) ≡ slice_get (filter (λ (e : Entry). is_written x.child e.what) past) n
unsent_by_cursor past x n is few = skipped (λ (e : Entry). is_written x.child e.what) past x.from n x.passed is.count few

-- ---- one line more

one_there : {X : Type 0} (p : X → Bool) (xs : List X) → prefix_len (λ x. not (p x)) xs < length xs → length (filter p (take (prefix_len (λ x. not (p x)) xs + 1) xs)) ≡ 1
one_there p [] low = absurd (omega arith)
one_there {X = X} p (x ∷ xs) low = go (p x) refl low (one_there p xs)
  where
    n : ℕ
    n = prefix_len (λ (y : X). not (p y)) xs

    go : (b : Bool) → p x ≡ b → cond (not b) (1 + n) 0 < suc (length xs) → (n < length xs → length (filter p (take (n + 1) xs)) ≡ 1)
        → length (filter p (take (cond (not b) (1 + n) 0 + 1) (x ∷ xs))) ≡ 1
    go true h low r = rw h refl
    go false h low r =
        let more : 1 + n + 1 ≡ suc (n + 1) = omega arith in
        rw more (rw h (r (omega arith)))

pub next_at : (past : List Entry) (x : Cursor) (n : ℕ) → IsAt past x → n ≡ prefix_len (λ e. not (is_written x.child e.what)) (drop x.from past) → n < length (drop x.from past)
    → IsAt past (record { child = x.child; from = x.from + (n + 1); passed = x.passed + 1 })
next_at past x n is here rest = record {
  within = let within = is.within in let long = length-drop x.from past in omega arith;
  count =
      let split : take (x.from + (n + 1)) past ≡ take x.from past ++ take (n + 1) (drop x.from past) = take-add x.from (n + 1) past in
      let one : length (filter (λ (e : Entry). is_written x.child e.what) (take (n + 1) (drop x.from past))) ≡ 1 =
      subst (λ (k : ℕ). length (filter (λ (e : Entry). is_written x.child e.what) (take (k + 1) (drop x.from past))) ≡ 1) (sym here)
      (one_there (λ (e : Entry). is_written x.child e.what) (drop x.from past) (subst (λ (k : ℕ). k < length (drop x.from past)) here rest)) in
      let before = is.count in
      ap (λ (l : List Entry). length (filter (λ (e : Entry). is_written x.child e.what) l)) split
      ∙ ap length (filter-append (λ (e : Entry). is_written x.child e.what) (take x.from past) (take (n + 1) (drop x.from past)))
      ∙ length-append (filter (λ (e : Entry). is_written x.child e.what) (take x.from past)) (filter (λ (e : Entry). is_written x.child e.what) (take (n + 1) (drop x.from past)))
      ∙ omega arith;
}

-- ---- the table

at_more : (past : List Entry) (e : Entry) (x : Cursor) → IsAt past x → IsAt (past ++ e ∷ []) x
at_more past e x is = record {
  within = let within = is.within in let long = length-append past (e ∷ []) in omega arith;
  count = ap (λ (l : List Entry). length (filter (λ (d : Entry). is_written x.child d.what) l)) (take-append-le x.from past (e ∷ []) is.within) ∙ is.count;
}

pub cursors_more : (past : List Entry) (e : Entry) (cursors : List Cursor) → AreAt past cursors → AreAt (past ++ e ∷ []) cursors
cursors_more past e cursors are = All-weaker (IsAt past) (IsAt (past ++ e ∷ [])) (at_more past e) cursors are

pub at_begin : (past : List Entry) (c : ℕ) → IsAt past (record { child = c; from = 0; passed = 0 })
at_begin past c = record { within = omega arith; count = refl }

pub cursor_found : (past : List Entry) (cursors : List Cursor) (c : ℕ) (x : Cursor) → find (λ x. x.child == c) cursors ≡ Some x → (x.child ≡ c) × (AreAt past cursors → IsAt past x)
cursor_found past [] c x h = absurd cc
cursor_found past (y ∷ cursors) c x h = go (y.child == c) refl h (cursor_found past cursors c x)
  where
    go : (b : Bool) → (y.child == c) ≡ b → cond b (Some y) (find (λ (z : Cursor). z.child == c) cursors) ≡ Some x
        → (find (λ (z : Cursor). z.child == c) cursors ≡ Some x → (x.child ≡ c) × (AreAt past cursors → IsAt past x)) → (x.child ≡ c) × (AreAt past (y ∷ cursors) → IsAt past x)
    go false e h r = let found = r h in (found.0, λ are. found.1 (All-tail (IsAt past) y cursors are))
    go true e h r =
        let is : y ≡ x = cc in
        (subst (λ (z : Cursor). z.child ≡ c) is (same_number y.child c e), λ are. subst (IsAt past) is (All-head (IsAt past) y cursors are))
