-- The entries are looked through from the last, one by one, for what gives something.
use Rattle.std.proofs.Common.{refl, ◌≡◌, ℕ, zero, suc, ◌+◌, ◌-◌, ◌<◌, List, [], ◌∷◌, sym, ap, subst, ◌∙◌, cond, Some, None, Option, arith, drop, length}
use Rattle.std.specs.Prelude.{option_and_then, option_map, slice_get}
use Rattle.std.specs.List.{cons_option, last_or}
use Rattle.journal_model.specs.declared.answer.Answer.{Answer}
use Rattle.journal_model.specs.declared.entry.Entry.{Entry}
use Rattle.journal_model.specs.declared.entry.What.{What}
use Rattle.journal_model.specs.Journal.{each_of}
use Rattle.journal_scan.specs.Shown.{entry_shown}
use Rattle.journal_scan.specs.declared.entry.EntryRef.{EntryRef}
use Rattle.run_starts.specs.Rounds.{again_of, last_again}

none_step : (f : What → Option Answer) (xs : List Entry) (i : ℕ) → option_and_then (λ (e : Entry). f e.what) (slice_get xs i) ≡ None → each_of f (drop (suc i) xs) ≡ [] → each_of f (drop i xs) ≡ []
none_step f [] i h k = nothing i
  where
    nothing : (i : ℕ) → each_of f (drop i []) ≡ []
    nothing zero = refl
    nothing (suc i) = refl
none_step f (x ∷ xs) zero h k = ap (λ (o : Option Answer). cons_option o (each_of f xs)) h ∙ k
none_step f (x ∷ xs) (suc i) h k = none_step f xs i h k

found : (f : What → Option Answer) (o : Option Answer) (xs : List Entry) (i : ℕ) (a : Answer) → option_and_then (λ (e : Entry). f e.what) (slice_get xs i) ≡ Some a → each_of f (drop (suc i) xs) ≡ []
    → last_or o (each_of f xs) ≡ Some a
found f o [] i a h k = absurd cc
found f o (x ∷ xs) zero a h k = ap (λ (l : Option Answer). last_or o (cons_option l (each_of f xs))) h ∙ ap (λ (l : List Answer). last_or (Some a) l) k
found f o (x ∷ xs) (suc i) a h k = go (f x.what) (λ p. found f p xs i a h k)
  where
    go : (y : Option Answer) → ((p : Option Answer) → last_or p (each_of f xs) ≡ Some a) → last_or o (cons_option y (each_of f xs)) ≡ Some a
    go None r = r o
    go (Some y) r = r (Some y)

all_dropped : (xs : List Entry) → drop (length xs) xs ≡ []
all_dropped [] = refl
all_dropped (x ∷ xs) = all_dropped xs

module _ (xs : List Entry) (t : ℕ) where
  -- none of the entries from there on
  abbrev pub NoneFrom : ℕ → Type 0
  NoneFrom i = each_of (again_of t) (drop i xs) ≡ []

  pub none_yet : NoneFrom (length xs - 0)
  none_yet = ap (each_of (again_of t)) (let n : length xs - 0 ≡ length xs = omega arith in ap (λ (k : ℕ). drop k xs) n ∙ all_dropped xs)

  pub none_at_all : (back : ℕ) → back ≡ length xs → NoneFrom (length xs - back) → last_again xs t ≡ None
  none_at_all back is h =
      let n : length xs - back ≡ 0 = omega (arith, is) in
      ap (last_or None) (subst (λ (k : ℕ). each_of (again_of t) (drop k xs) ≡ []) n h)

  module _ (back : ℕ) (within : back < length xs) (shown : Option EntryRef) (at : option_map entry_shown shown ≡ slice_get xs (length xs - 1 - back)) (r : Option Answer)
      (is : r ≡ option_and_then (λ (e : Entry). again_of t e.what) (option_map entry_shown shown)) (none : NoneFrom (length xs - back)) where
    here : suc (length xs - 1 - back) ≡ length xs - back
    here = omega (arith, within)

    later : each_of (again_of t) (drop (suc (length xs - 1 - back)) xs) ≡ []
    later = subst NoneFrom (sym here) none

    pub still_none : r ≡ None → NoneFrom (length xs - (back + 1))
    still_none h =
        let n : length xs - 1 - back ≡ length xs - (back + 1) = omega arith in
        subst NoneFrom n (none_step (again_of t) xs (length xs - 1 - back) (ap (option_and_then (λ (e : Entry). again_of t e.what)) (sym at) ∙ sym is ∙ h) later)

    pub found_last : (a : Answer) → r ≡ Some a → last_again xs t ≡ Some a
    found_last a h = found (again_of t) None xs (length xs - 1 - back) a (ap (option_and_then (λ (e : Entry). again_of t e.what)) (sym at) ∙ sym is ∙ h) later
