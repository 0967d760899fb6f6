-- No line ends in a key, nor in what a remote says of one.
use Rattle.std.proofs.Common.{◌≡◌, ℕ, ◌==◌, ◌||◌, not, Bool, true, false, List, [], ◌∷◌, ◌++◌, length, Option, Some, None, refl, ap, ◌∙◌, arith}
use Rattle.std.specs.Prelude.{nat_lt}
use Rattle.std.specs.List.{list_all}
use Rattle.std.proofs.lemmas.Bool.{not-true, and_parts as both}
use Rattle.std.proofs.lemmas.Bool.Decides.{nat_tests}
use Rattle.ann_key.specs.Numbers.{is_digit, IsNumeral}
use Rattle.ann_key.specs.Keys.{Parts, is_backend_byte, IsField, IsChunkField, IsKey, key_reading}
use Rattle.ann_key.proofs.Spelling.{spelled_of_read, all_digits}
use Rattle.annex_model.specs.Lines.{has_newline}
use Rattle.kit_serve.proofs.KitLemmas.Describing.{digit_free as digit_apart}
use Rattle.kit_serve.proofs.KitLemmas.Endless.{free_both}

none_of : (p : ℕ → Bool) → ((b : ℕ) → p b ≡ true → (b == 10) ≡ false) → (xs : List ℕ) → list_all p xs ≡ true → has_newline xs ≡ false
none_of p apart [] all = refl
none_of p apart (x ∷ xs) all =
    let t = both (p x) (list_all p xs) all in ap (λ (b : Bool). b || has_newline xs) (apart x t.0) ∙ none_of p apart xs t.1

-- a field, a space and another one
pub fields_free : (xs ys : List ℕ) → has_newline xs ≡ false → has_newline ys ≡ false → has_newline (xs ++ 32 ∷ ys) ≡ false
fields_free xs ys first second = free_both xs (32 ∷ ys) first second

backend_apart : (b : ℕ) → is_backend_byte b ≡ true → (b == 10) ≡ false
backend_apart b h = grind (arith, nat_tests)

numeral_free : (n : ℕ) (digits : List ℕ) → IsNumeral n digits → has_newline digits ≡ false
numeral_free n digits s = none_of is_digit digit_apart digits (all_digits digits s.form)

field_free : (letter : ℕ) (o : Option ℕ) (field : List ℕ) → (letter == 10) ≡ false → IsField letter o field → has_newline field ≡ false
field_free letter None field other f = ap has_newline f
field_free letter (Some n) field other f = ap has_newline f.1 ∙ ap (λ (b : Bool). b || has_newline f.0) other ∙ numeral_free n f.0 f.2

chunk_free : (o : Option (ℕ × ℕ)) (field : List ℕ) → IsChunkField o field → has_newline field ≡ false
chunk_free None field f = ap has_newline f
chunk_free (Some c) field f = ap has_newline f.2 ∙ free_both f.0 (45 ∷ 67 ∷ f.1) (numeral_free c.0 f.0 f.3) (numeral_free c.1 f.1 f.4)

key_free : (bytes : List ℕ) (key : Parts) → IsKey bytes key → has_newline bytes ≡ false
key_free bytes key s =
    let backend = none_of is_backend_byte backend_apart key.backend (both (nat_lt 0 (length key.backend)) (list_all is_backend_byte key.backend) s.backend_class).1 in
    let name = not-true (has_newline key.name) (both (nat_lt 0 (length key.name)) (not (has_newline key.name)) s.name_class).1 in
    ap has_newline s.whole
    ∙ free_both key.backend (s.size ++ (s.mtime ++ (s.chunk ++ 45 ∷ 45 ∷ key.name))) backend
    (free_both s.size (s.mtime ++ (s.chunk ++ 45 ∷ 45 ∷ key.name)) (field_free 115 key.size s.size refl s.size_field)
    (free_both s.mtime (s.chunk ++ 45 ∷ 45 ∷ key.name) (field_free 109 key.mtime s.mtime refl s.mtime_field)
    (free_both s.chunk (45 ∷ 45 ∷ key.name) (chunk_free key.chunk s.chunk s.chunk_field) name)))

pub read_free : (bytes : List ℕ) (key : Parts) → key_reading bytes ≡ Some key → has_newline bytes ≡ false
read_free bytes key reads = key_free bytes key (spelled_of_read bytes key reads)
