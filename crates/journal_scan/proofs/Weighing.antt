-- The bytes of a journal's lines, by how many more they may have.
use Rattle.std.proofs.Common.{◌≡◌, ℕ, ◌+◌, ◌-◌, List, [], ◌∷◌, ◌++◌, refl, ap, Bool, true, false, arith}
use Rattle.std.specs.Prelude.{◌==◌, ◌||◌, nat_le, length}
use Rattle.std.proofs.lemmas.Bool.Decides.{nat_tests}
use Rattle.std.proofs.lemmas.List.Sums.{sum_by-append}
use Rattle.journal_model.specs.declared.entry.Entry.{Entry}
use Rattle.journal_model.specs.Journal.{line_bytes, bytes_in, is_full}
use Rattle.journal_model.specs.Limits.{most_entries, most_line_bytes}

none_left : (most bytes left : ℕ) → left ≡ most - bytes → (left == 0) ≡ nat_le most bytes
none_left most bytes left h = go (left == 0) (nat_le most bytes) refl refl
  where
    go : (a b : Bool) → (left == 0) ≡ a → nat_le most bytes ≡ b → a ≡ b
    go true true p q = refl
    go false false p q = refl
    go true false p q = absurd (grind (arith, nat_tests))
    go false true p q = absurd (grind (arith, nat_tests))

pub full_by_left : (entries : List Entry) (left : ℕ) → left ≡ most_line_bytes - bytes_in entries → (nat_le most_entries (length entries) || left == 0) ≡ is_full entries
full_by_left entries left h = ap (λ (b : Bool). nat_le most_entries (length entries) || b) (none_left most_line_bytes (bytes_in entries) left h)

bytes_more : (entries : List Entry) (e : Entry) → bytes_in (entries ++ e ∷ []) ≡ bytes_in entries + line_bytes e.what
bytes_more entries e = omega (arith, sum_by-append (λ (d : Entry). line_bytes d.what) entries (e ∷ []))

pub left_more : (entries : List Entry) (e : Entry) (left : ℕ) → left ≡ most_line_bytes - bytes_in entries → left - line_bytes e.what ≡ most_line_bytes - bytes_in (entries ++ e ∷ [])
left_more entries e left h = omega (arith, bytes_more entries e)
