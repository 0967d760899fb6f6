-- The key of a chunk can be sent where that of the content can.
use Rattle.std.proofs.Common.{◌≡◌, ◌∙◌, ℕ, List, [], ◌∷◌, ◌++◌, refl, sym, ap, arith}
use Rattle.std.specs.Prelude.{◌^◌, length, slice_index, Bool, true, false, ◌&&◌, ◌||◌, ◌==◌, not, nat_le, nat_lt, Option, Some, None, is_some}
use Rattle.std.specs.List.{list_any, list_all}
use Rattle.std.proofs.lemmas.List.Folds.{list_any-append}
use Rattle.std.proofs.lemmas.Bool.Decides.{nat_tests}
use Rattle.ann_key.specs.Numbers.{is_digit, is_number, value_of, IsNumeral}
use Rattle.ann_key.specs.Keys.{Parts, IsKey, IsField, IsChunkField, key_reading, is_key, with_chunk}
use Rattle.ann_key.proofs.Spelling.{spelled_of_read, read_of_spelled}
use Rattle.std.proofs.lemmas.Bool.{and_parts}
use Rattle.annex_model.specs.Messages.{is_sent_key}
use Rattle.ann_key.proofs.Booleans.{left_false as front_of, right_false as rest_of, false_is_true as apart}

abbrev has_space : List ℕ → Bool
has_space text = list_any (λ b. b == 32) text

none_front : (xs ys : List ℕ) → has_space (xs ++ ys) ≡ false → has_space xs ≡ false
none_front xs ys h = front_of (has_space xs) (has_space ys) (sym (list_any-append (λ b. b == 32) xs ys) ∙ h)

none_rest : (xs ys : List ℕ) → has_space (xs ++ ys) ≡ false → has_space ys ≡ false
none_rest xs ys h = rest_of (has_space xs) (has_space ys) (sym (list_any-append (λ b. b == 32) xs ys) ∙ h)

none_both : (xs ys : List ℕ) → has_space xs ≡ false → has_space ys ≡ false → has_space (xs ++ ys) ≡ false
none_both xs ys a b = rw (list_any-append (λ b. b == 32) xs ys) (rw (a, b) refl)

digit_not : (b : ℕ) → is_digit b ≡ true → (b == 32) ≡ false
digit_not b h = grind (arith, nat_tests)

digits_none : (ds : List ℕ) → list_all is_digit ds ≡ true → has_space ds ≡ false
digits_none [] h = refl
digits_none (d ∷ ds) h = both (is_digit d) (list_all is_digit ds) h (digit_not d) (digits_none ds)
  where
    both : (a b : Bool) → (a && b) ≡ true → (a ≡ true → (d == 32) ≡ false) → (b ≡ true → has_space ds ≡ false) → has_space (d ∷ ds) ≡ false
    both true b e f g = rw (f refl, g e) refl
    both false b e f g = apart e

numeral_none : (n : ℕ) (ds : List ℕ) → IsNumeral n ds → has_space ds ≡ false
numeral_none n ds h =
    let p = and_parts (is_number ds) (length ds == 1 || not (slice_index ds 0 == 48)) h.form in
    let q = and_parts (nat_le 1 (length ds) && nat_le (length ds) 20 && list_all is_digit ds) (nat_lt (value_of ds) (2 ^ 64)) p.0 in
    let r = and_parts (nat_le 1 (length ds) && nat_le (length ds) 20) (list_all is_digit ds) q.0 in
    digits_none ds r.1

field_none : (letter : ℕ) (n : Option ℕ) (text : List ℕ) → (letter == 32) ≡ false → IsField letter n text → has_space text ≡ false
field_none letter None text l h = rw h refl
field_none letter (Some n) text l h = rw h.1 (rw (l, numeral_none n h.0 h.2) refl)

chunk_none : (chunk n : ℕ) (text : List ℕ) → IsChunkField (Some (chunk, n)) text → has_space text ≡ false
chunk_none chunk n text h = rw h.2 (none_both h.0 (45 ∷ 67 ∷ h.1) (numeral_none chunk h.0 h.3) (numeral_none n h.1 h.4))

pub chunk_key_sent : (base : List ℕ) (key : Parts) (chunk n : ℕ) (text : List ℕ) → key_reading base ≡ Some key → has_space base ≡ false → IsKey text (with_chunk chunk n key) → is_sent_key text ≡ true
chunk_key_sent base key chunk n text r s h = rw (is_read, no_space) refl
  where
    b : IsKey base key
    b = spelled_of_read base key r

    in_base : has_space (key.backend ++ (b.size ++ (b.mtime ++ (b.chunk ++ 45 ∷ 45 ∷ key.name)))) ≡ false
    in_base = sym (ap has_space b.whole) ∙ s

    backend : has_space key.backend ≡ false
    backend = none_front key.backend _ in_base

    name : has_space (45 ∷ 45 ∷ key.name) ≡ false
    name = none_rest b.chunk _ (none_rest b.mtime _ (none_rest b.size _ (none_rest key.backend _ in_base)))

    whole : has_space (key.backend ++ (h.size ++ (h.mtime ++ (h.chunk ++ 45 ∷ 45 ∷ key.name)))) ≡ false
    whole = none_both key.backend _ backend (none_both h.size _ (field_none 115 key.size h.size refl h.size_field)
        (none_both h.mtime _ (field_none 109 key.mtime h.mtime refl h.mtime_field) (none_both h.chunk _ (chunk_none chunk n h.chunk h.chunk_field) name)))

    no_space : has_space text ≡ false
    no_space = ap has_space h.whole ∙ whole

    is_read : is_key text ≡ true
    is_read = ap (λ o. is_some {T = Parts} o) (read_of_spelled text (with_chunk chunk n key) h)

pub chunk_sent : (base : List ℕ) (key : Parts) (chunk n : ℕ) (text : List ℕ) → key_reading base ≡ Some key → is_sent_key base ≡ true → IsKey text (with_chunk chunk n key) → is_sent_key text ≡ true
chunk_sent base key chunk n text r s h =
    let p = and_parts (is_key base) (not (has_space base)) s in
    chunk_key_sent base key chunk n text r (turned (has_space base) p.1) h
  where
    turned : (b : Bool) → not b ≡ true → b ≡ false
    turned true e = apart e
    turned false e = refl
