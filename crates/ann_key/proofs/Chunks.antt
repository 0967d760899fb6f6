-- The spelling of a chunk's key.
use Rattle.std.proofs.Common.{◌≡◌, ℕ, ◌<◌, ◌^◌, List, [], ◌∷◌, ◌++◌, refl, sym, ap, ◌∙◌, true, Some, append_assoc, arith}
use Rattle.std.specs.Prelude.{nat_lt}
use Rattle.std.specs.Fmt.{decimal}
use Rattle.std.proofs.lemmas.List.{append_cancel_right}
use Rattle.std.proofs.lemmas.Bool.Decides.{nat_tests}
use Rattle.ann_key.specs.Keys.{Parts, IsChunkField, IsKey, without_chunk, with_chunk}
use Rattle.ann_key.proofs.Unique.{decimal_is_numeral}

-- what stands before two dashes and a name
pub front_is : (front : List ℕ) (key : Parts) (s : IsKey (front ++ 45 ∷ 45 ∷ key.name) key) → front ≡ key.backend ++ (s.size ++ (s.mtime ++ s.chunk))
front_is front key s =
    let N : List ℕ = 45 ∷ 45 ∷ key.name in
    append_cancel_right front (key.backend ++ (s.size ++ (s.mtime ++ s.chunk))) N
    (s.whole ∙ sym (
    append_assoc key.backend (s.size ++ (s.mtime ++ s.chunk)) N
    ∙ ap (λ (x : List ℕ). key.backend ++ x) (append_assoc s.size (s.mtime ++ s.chunk) N ∙ ap (λ (x : List ℕ). s.size ++ x) (append_assoc s.mtime s.chunk N))
    ))

pub chunk_key : (head tail fields : List ℕ) (key : Parts) (size number : ℕ) → IsKey (head ++ tail) (without_chunk key) → tail ≡ 45 ∷ 45 ∷ key.name
    → IsChunkField (Some (size, number)) fields → IsKey ((head ++ fields) ++ tail) (with_chunk size number key)
chunk_key head tail fields key size number s0 e f = record {
  size = s.size;
  mtime = s.mtime;
  chunk = fields;
  whole = whole;
  backend_class = s.backend_class;
  size_field = s.size_field;
  mtime_field = s.mtime_field;
  chunk_field = f;
  name_class = s.name_class;
}
  where
    s : IsKey (head ++ 45 ∷ 45 ∷ key.name) (without_chunk key)
    s = rw e at s0

    N : List ℕ
    N = 45 ∷ 45 ∷ key.name

    none : s.chunk ≡ []
    none = s.chunk_field

    whole : (head ++ fields) ++ tail ≡ key.backend ++ (s.size ++ (s.mtime ++ (fields ++ N)))
    whole =
        ap (λ (x : List ℕ). (x ++ fields) ++ tail) (front_is head (without_chunk key) s ∙ ap (λ (x : List ℕ). key.backend ++ (s.size ++ (s.mtime ++ x))) none)
        ∙ rw e (simp append_assoc)

pub fields_are : (size number : ℕ) → size < 2 ^ 64 → number < 2 ^ 64 → 0 < size → 0 < number
    → IsChunkField (Some (size, number)) (45 ∷ 83 ∷ decimal size ++ 45 ∷ 67 ∷ decimal number)
fields_are size number h k p q =
    let a : nat_lt 0 size ≡ true = grind (arith, nat_tests) in
    let b : nat_lt 0 number ≡ true = grind (arith, nat_tests) in
    (decimal size, decimal number, refl, decimal_is_numeral size h, decimal_is_numeral number k, rw (a, b) refl)
