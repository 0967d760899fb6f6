-- The directories of a key: of its text, and without byte 10.
use Rattle.std.proofs.Common.{◌≡◌, ℕ, zero, suc, ◌*◌, ◌^◌, ◌/◌, ◌%◌, ◌==◌, true, not, List, [], ◌∷◌, ◌++◌, take, drop, refl}
use Rattle.std.specs.Prelude.{slice_index}
use Rattle.std.specs.Int.{w32, from_le_bytes}
use Rattle.hex.specs.Hex.{encode_with, encode_lower, lower_digits}
use Rattle.md5.specs.Md5.{md5}
use Rattle.ann_key.specs.Keys.{IsKey, without_chunk}
use Rattle.ann_key.specs.KeyRefs.{parts_of, text_of}
use Rattle.ann_key.specs.declared.key.KeyRef.{KeyRef}
use Rattle.ann_key.proofs.Spelling.{spelled_of_read}
use Rattle.ann_digest.specs.Directories.{letter, letters, mixed_under, lower_under}
use Rattle.annex_model.specs.Lines.{has_newline}
use Rattle.registers.specs.Registers.{is_line}
use Rattle.journal_model.specs.Replies.{base_text, mixed_at, lower_at}
use Rattle.journal_model.proofs.BaseText.{base_is_the_base}
use Rattle.std.proofs.lemmas.Bool.{and_parts as both, and_from as both_true}
use Rattle.ann_key.proofs.Lists.{none_passes}

-- the base text of a key that was read spells the key without its chunk
pub base_spelled : (key : KeyRef) → IsKey (base_text (text_of key)) (without_chunk (parts_of key))
base_spelled key = base_is_the_base (text_of key) (parts_of key) (spelled_of_read (text_of key) (parts_of key) key.spelled)

-- ---- no byte 10
not_ten : (xs : List ℕ) (k : ℕ) → is_line xs ≡ true → not (slice_index xs k == 10) ≡ true
not_ten [] k h = refl
not_ten (x ∷ xs) zero h = (both (not (x == 10)) (is_line xs) h).0
not_ten (x ∷ xs) (suc k) h = not_ten xs k (both (not (x == 10)) (is_line xs) h).1

hex_is_line : (bytes : List ℕ) → is_line (encode_lower bytes) ≡ true
unfolding encode_with
hex_is_line [] = refl
hex_is_line (b ∷ bytes) =
    both_true (not (slice_index lower_digits (b / 16) == 10)) _ (not_ten lower_digits (b / 16) refl)
    (both_true (not (slice_index lower_digits (b % 16) == 10)) _ (not_ten lower_digits (b % 16) refl) (hex_is_line bytes))

take_is_line : (n : ℕ) (xs : List ℕ) → is_line xs ≡ true → is_line (take n xs) ≡ true
take_is_line zero xs h = refl
take_is_line (suc n) [] h = refl
take_is_line (suc n) (x ∷ xs) h = let parts = both (not (x == 10)) (is_line xs) h in both_true (not (x == 10)) _ parts.0 (take_is_line n xs parts.1)

drop_is_line : (n : ℕ) (xs : List ℕ) → is_line xs ≡ true → is_line (drop n xs) ≡ true
drop_is_line zero xs h = h
drop_is_line (suc n) [] h = refl
drop_is_line (suc n) (x ∷ xs) h = drop_is_line n xs (both (not (x == 10)) (is_line xs) h).1

append_is_line : (xs ys : List ℕ) → is_line xs ≡ true → is_line ys ≡ true → is_line (xs ++ ys) ≡ true
append_is_line [] ys h k = k
append_is_line (x ∷ xs) ys h k = let parts = both (not (x == 10)) (is_line xs) h in both_true (not (x == 10)) _ parts.0 (append_is_line xs ys parts.1 k)

lower_is_line : (digest : List ℕ) → is_line (lower_under digest) ≡ true
lower_is_line digest =
    let hex = encode_lower digest in
    append_is_line (take 3 hex ++ 47 ∷ []) (take 3 (drop 3 hex))
    (append_is_line (take 3 hex) (47 ∷ []) (take_is_line 3 hex (hex_is_line digest)) refl)
    (take_is_line 3 (drop 3 hex) (drop_is_line 3 hex (hex_is_line digest)))

letter_fits : (word n : ℕ) → not (letter word n == 10) ≡ true
letter_fits word n = not_ten letters (word / 2 ^ (6 * n) % 32) refl

mixed_is_line : (digest : List ℕ) → is_line (mixed_under digest) ≡ true
mixed_is_line digest =
    let word = from_le_bytes w32 (take 4 digest) in
    both_true (not (letter word 1 == 10)) _ (letter_fits word 1)
    (both_true (not (letter word 0 == 10)) _ (letter_fits word 0)
    (both_true (not (letter word 3 == 10)) _ (letter_fits word 3)
    (both_true (not (letter word 2 == 10)) true (letter_fits word 2) refl)))

pub mixed_line : (key : List ℕ) → not (has_newline (mixed_at key)) ≡ true
unfolding mixed_at
mixed_line key = none_passes (λ b. b == 10) (mixed_under (md5 (base_text key))) (mixed_is_line (md5 (base_text key)))

pub lower_line : (key : List ℕ) → not (has_newline (lower_at key)) ≡ true
unfolding lower_at
lower_line key = none_passes (λ b. b == 10) (lower_under (md5 (base_text key))) (lower_is_line (md5 (base_text key)))
