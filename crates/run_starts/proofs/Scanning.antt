-- The entries are looked through, one by one, for an end for lack of memory.
use Rattle.std.proofs.Common.{refl, ◌≡◌, ℕ, zero, suc, ◌+◌, List, [], ◌∷◌, sym, ap, subst, ◌∙◌, Bool, true, false, arith}
use Rattle.std.specs.Prelude.{option_map, slice_get, take, Option}
use Rattle.journal_model.specs.declared.entry.Entry.{Entry}
use Rattle.journal_model.specs.Journal.{any}
use Rattle.journal_scan.specs.Shown.{entry_shown}
use Rattle.journal_scan.specs.declared.entry.EntryRef.{EntryRef}
use Rattle.run_starts.specs.Rounds.{ends_for_memory}
use Rattle.run_starts.specs.Stints.{is_memory_end}
use Rattle.ann_key.proofs.Booleans.{left_false as either_left, right_false as either_right, or_neither as neither, or_left, or_right}

none_step : (xs : List Entry) (i : ℕ) → is_memory_end (slice_get xs i) ≡ false → any ends_for_memory (take i xs) ≡ false → any ends_for_memory (take (suc i) xs) ≡ false
none_step [] i h k = refl
none_step (x ∷ xs) zero h k = neither (ends_for_memory x.what) false h refl
none_step (x ∷ xs) (suc i) h k =
    neither (ends_for_memory x.what) (any ends_for_memory (take (suc i) xs)) (either_left (ends_for_memory x.what) (any ends_for_memory (take i xs)) k)
    (none_step xs i h (either_right (ends_for_memory x.what) (any ends_for_memory (take i xs)) k))

some_at : (xs : List Entry) (i : ℕ) → is_memory_end (slice_get xs i) ≡ true → any ends_for_memory xs ≡ true
some_at [] i h = absurd cc
some_at (x ∷ xs) zero h = or_left (ends_for_memory x.what) (any ends_for_memory xs) h
some_at (x ∷ xs) (suc i) h = or_right (ends_for_memory x.what) (any ends_for_memory xs) (some_at xs i h)

module _ (xs : List Entry) (i : ℕ) (shown : Option EntryRef) (at : option_map entry_shown shown ≡ slice_get xs i) (b : Bool) (is : b ≡ is_memory_end (option_map entry_shown shown)) where
  pub scan_on : b ≡ false → any ends_for_memory (take i xs) ≡ false → any ends_for_memory (take (i + 1) xs) ≡ false
  scan_on h k =
      let one_more : suc i ≡ i + 1 = omega arith in
      subst (λ (n : ℕ). any ends_for_memory (take n xs) ≡ false) one_more (none_step xs i (ap is_memory_end (sym at) ∙ sym is ∙ h) k)

  pub scan_found : b ≡ true → any ends_for_memory xs ≡ true
  scan_found h = some_at xs i (ap is_memory_end (sym at) ∙ sym is ∙ h)
