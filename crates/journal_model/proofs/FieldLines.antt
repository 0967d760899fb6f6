-- The fields of a message hold no byte 10 where the line that spells it holds none.
use Rattle.std.proofs.Common.{◌≡◌, ℕ, ◌<◌, ◌^◌, ◌==◌, Bool, true, false, not, ◌⊎◌, inl, inr, List, [], ◌∷◌, ◌++◌, refl, sym, ap, subst, ◌∙◌, arith}
use Rattle.std.specs.Prelude.{decimal, nat_lt}
use Rattle.std.specs.List.{list_all}
use Rattle.std.proofs.lemmas.List.Folds.{list_any-append}
use Rattle.std.proofs.lemmas.Bool.Decides.{nat_tests}
use Rattle.ann_key.specs.Numbers.{is_digit, is_number, value_of}
use Rattle.ann_key.proofs.Unique.{decimal_is_numeral}
use Rattle.annex_model.specs.Lines.{has_newline}
use Rattle.annex_model.specs.Messages.{RemoteMessage, RemoteSpells, Param, Number, Key, Word, Rest, Direction, Scope, Spelled, Followed, remote_row, field_text}
use Rattle.journal_model.specs.Replies.{are_line_fields}
use Rattle.ann_key.proofs.Booleans.{neither_is as apart, not_either as neither}
use Rattle.std.proofs.lemmas.Bool.{and_parts as both, and_from as both_true}
use Rattle.ann_key.proofs.Across.{digit_fits}
use Rattle.journal_model.specs.Legality.{is_text}
use Rattle.std.specs.Str.{is_utf8}

-- ---- digits
digits_fit : (bytes : List ℕ) → list_all is_digit bytes ≡ true → not (has_newline bytes) ≡ true
digits_fit [] h = refl
digits_fit (b ∷ bytes) h =
    let parts = both (is_digit b) (list_all is_digit bytes) h in
    neither (b == 10) (has_newline bytes) (digit_fits b parts.0) (digits_fit bytes parts.1)

number_digits : (field : List ℕ) → is_number field ≡ true → (list_all is_digit field ≡ true) × (value_of field < 2 ^ 64)
number_digits field h =
    let last = both _ (nat_lt (value_of field) (2 ^ 64)) h in
    let small : nat_lt (value_of field) (2 ^ 64) ≡ true = last.1 in
    ((both _ (list_all is_digit field) last.0).1, grind (arith, nat_tests))

decimal_fits : (n : ℕ) → n < 2 ^ 64 → not (has_newline (decimal n)) ≡ true
decimal_fits n h = digits_fit (decimal n) (number_digits (decimal n) (both (is_number (decimal n)) _ (decimal_is_numeral n h).form).0).0

-- ---- fields
field_fits : (p : Param) (field : List ℕ) → Spelled p field → not (has_newline field) ≡ true → not (has_newline (field_text p)) ≡ true
field_fits (Number n) field s h = let small : n < 2 ^ 64 = subst (λ (k : ℕ). k < 2 ^ 64) s.1 (number_digits field s.0).1 in decimal_fits n small
field_fits (Key key) field s h = ap (λ (t : List ℕ). not (has_newline t)) (sym s.0) ∙ h
field_fits (Word word) field s h = ap (λ (t : List ℕ). not (has_newline t)) (sym s.0) ∙ h
field_fits (Rest rest) field s h = ap (λ (t : List ℕ). not (has_newline t)) (sym s) ∙ h
field_fits (Direction true) field s h = refl
field_fits (Direction false) field s h = refl
field_fits (Scope true) field s h = refl
field_fits (Scope false) field s h = refl

abbrev are_fit : List Param → Bool
are_fit ps = list_all (λ p. not (has_newline (field_text p))) ps

-- a field, and what follows it, where both hold no byte 10
front : (field more tail : List ℕ) → tail ≡ 32 ∷ field ++ more → not (has_newline tail) ≡ true → (not (has_newline field) ≡ true) × (not (has_newline more) ≡ true)
front field more tail e h =
    apart (has_newline field) (has_newline more) (ap not (sym (list_any-append (λ b. b == 10) field more)) ∙ ap (λ (t : List ℕ). not (has_newline t)) (sym e) ∙ h)

last_fits : (rest tail : List ℕ) → (tail ≡ 32 ∷ rest) ⊎ ((tail ≡ []) × (rest ≡ [])) → not (has_newline tail) ≡ true → not (has_newline rest) ≡ true
last_fits rest tail (inl e) h = ap (λ (t : List ℕ). not (has_newline t)) (sym e) ∙ h
last_fits rest tail (inr e) h = ap (λ (t : List ℕ). not (has_newline t)) e.1

fields_fit : (ps : List Param) (tail : List ℕ) → Followed ps tail → not (has_newline tail) ≡ true → are_fit ps ≡ true
fields_fit [] tail f h = refl
fields_fit (Rest rest ∷ []) tail f h = both_true (not (has_newline rest)) true (last_fits rest tail f h) refl
fields_fit (p ∷ ps) tail f h =
    let parts = front f.0 f.1 tail f.2 h in
    both_true (not (has_newline (field_text p))) (are_fit ps) (field_fits p f.0 f.3 parts.0) (fields_fit ps f.1 f.4 parts.1)

pub spelled_fields : (m : RemoteMessage) (line : List ℕ) → RemoteSpells m line → not (has_newline line) ≡ true → are_line_fields m ≡ true
spelled_fields m line s h =
    let word = (remote_row m).0 in
    let parts = apart (has_newline word) (has_newline s.0) (ap not (sym (list_any-append (λ b. b == 10) word s.0)) ∙ ap (λ (t : List ℕ). not (has_newline t)) (sym s.1) ∙ h) in
    fields_fit (remote_row m).1 s.0 s.2 parts.1

pub text_fits : (text : List ℕ) → is_text text ≡ true → not (has_newline text) ≡ true
text_fits text h = (both (is_utf8 text) (not (has_newline text)) h).1
