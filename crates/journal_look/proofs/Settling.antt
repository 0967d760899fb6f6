-- Whether a job was settled, by the open jobs and the entries after a place.
use Rattle.std.proofs.Common.{◌≡◌, ◌∙◌, ℕ, zero, suc, List, [], ◌∷◌, ◌++◌, refl, sym, ap, Bool, true, false, not, cond, Option, Some, None, take, drop, take-append-drop}
use Rattle.std.specs.Prelude.{◌==◌, ◌||◌, slice_get}
use Rattle.std.specs.List.{list_any, cons_option}
use Rattle.journal_model.specs.declared.entry.Entry.{Entry}
use Rattle.journal_model.specs.Journal.{any, asks, asked_jobs, is_open, is_settled, settles}
use Rattle.journal_model.proofs.Looks.{any-append, is_asked, open_unsettled}
use Rattle.journal_model.proofs.Working.{asked_settled}
use Rattle.ann_key.proofs.Booleans.{or_false}
use Rattle.ann_key.proofs.Numbers.{same_number}

-- where no entry after the first n settles it, those before did exactly where it isn't open
pub settled_before : (xs : List Entry) (n c j : ℕ) → is_asked xs c j ≡ true → is_settled (drop n xs) c j ≡ false → is_settled (take n xs) c j ≡ not (is_open xs c j)
settled_before xs n c j asked none = sym whole ∙ by_open (is_open xs c j) refl
  where
    whole : is_settled xs c j ≡ is_settled (take n xs) c j
    whole =
        ap (λ (ys : List Entry). is_settled ys c j) (sym (take-append-drop n xs))
        ∙ any-append (settles c j) (take n xs) (drop n xs)
        ∙ ap (λ (b : Bool). is_settled (take n xs) c j || b) none
        ∙ or_false (is_settled (take n xs) c j)

    by_open : (b : Bool) → is_open xs c j ≡ b → is_settled xs c j ≡ not (is_open xs c j)
    by_open true e = open_unsettled xs c j e ∙ sym (ap not e)
    by_open false e = asked_settled xs c j asked e ∙ sym (ap not e)

-- a job that an entry asks was asked
pub asked_at : (xs : List Entry) (at c j : ℕ) (e : Entry) → slice_get xs at ≡ Some e → asks c e.what ≡ Some j → is_asked xs c j ≡ true
asked_at [] at c j e here asks_j = absurd cc
asked_at (x ∷ xs) zero c j e here asks_j =
    let same : asks c x.what ≡ Some j = ap (λ (o : Option Entry). by_entry o) here ∙ asks_j in
    ap (λ (o : Option ℕ). list_any (λ k. k == j) (cons_option o (asked_jobs xs c))) same ∙ ap (λ (b : Bool). b || is_asked xs c j) (same_number j)
  where
    by_entry : Option Entry → Option ℕ
    by_entry None = None
    by_entry (Some y) = asks c y.what
asked_at (x ∷ xs) (suc at) c j e here asks_j = later (asks c x.what) (asked_at xs at c j e here asks_j)
  where
    later : (o : Option ℕ) → is_asked xs c j ≡ true → list_any (λ k. k == j) (cons_option o (asked_jobs xs c)) ≡ true
    later None h = h
    later (Some k) h = go (k == j) h
      where
        go : (b : Bool) → is_asked xs c j ≡ true → (b || is_asked xs c j) ≡ true
        go true h = refl
        go false h = h
