-- A number has one text, a key one spelling, and a text one reading.
use Rattle.std.proofs.Common.{◌≡◌, ℕ, ◌+◌, ◌*◌, ◌-◌, ◌<◌, ◌≤◌, ◌^◌, List, [], ◌∷◌, ◌++◌, length, fold, get_or, refl, sym, ap, ◌∙◌, Bool, true, false, Some, None, Option, arith}
use Rattle.std.specs.Prelude.{◌==◌, ◌&&◌, ◌||◌, not, nat_le, nat_lt, slice_index}
use Rattle.std.specs.List.{list_all}
use Rattle.std.specs.Fmt.{decimal}
use Rattle.std.specs.Int.{IsInRange}
use Rattle.std.proofs.lemmas.Str.Parse.{IsDigitsTest, FoldsDigits, IsNumeralModel, numerals_by_fold}
use Rattle.std.proofs.lemmas.Fmt.{decimal-digits_value, digits_decimal, digits_value-decimal, length-decimal-le, first_decimal, decimal_nonempty, decimal_digit}
use Rattle.std.proofs.lemmas.Bool.{eqb-true, and_parts as both}
use Rattle.std.proofs.lemmas.Bool.Decides.{nat_tests}
use Rattle.ann_key.specs.Numbers.{is_digit, value_of, is_number, is_numeral, IsNumeral}
use Rattle.ann_key.specs.Keys.{Parts, IsField, IsChunkField, IsKey, key_reading}
use Rattle.ann_key.proofs.Spelling.{read_of_spelled}

digit_in : (c : ℕ) → is_digit c ≡ true → IsInRange 48 57 c
digit_in c h = grind (arith, nat_tests)

in_digit : (c : ℕ) → IsInRange 48 57 c → is_digit c ≡ true
in_digit c h = grind (arith, nat_tests)

tells : IsDigitsTest (λ (ds : List ℕ). list_all is_digit ds ≡ true)
tells = record {
  empty = refl;
  parts = λ c cs h. let t : (is_digit c ≡ true) × (list_all is_digit cs ≡ true) = both (is_digit c) (list_all is_digit cs) h in (digit_in c t.0, t.1);
  more = λ c cs r h. let d : is_digit c ≡ true = in_digit c r in rw (d, h) refl;
}

value_after : ℕ → List ℕ → ℕ
value_after n ds = fold (λ (m d : ℕ). 10 * m + (d - 48)) n ds

folds : FoldsDigits value_after
unfolding value_after
folds = record {
  empty = λ n. refl;
  more = λ n c cs r. let e : 10 * n + (c - 48) ≡ n * 10 + (c - 48) = omega arith in ap (λ (m : ℕ). fold (λ (m d : ℕ). 10 * m + (d - 48)) m cs) e;
}

pub own_numbers : IsNumeralModel (λ (ds : List ℕ). list_all is_digit ds ≡ true) value_of
unfolding value_after
own_numbers = numerals_by_fold (λ (ds : List ℕ). list_all is_digit ds ≡ true) tells value_after folds

-- ---- numbers

record NumeralFacts (digits : List ℕ) : Type 0 where
  long : 0 < length digits
  all : list_all is_digit digits ≡ true
  small : value_of digits < 2 ^ 64
  first : get_or digits 0 0 ≡ 48 → length digits ≡ 1

numeral_facts : (digits : List ℕ) → is_numeral digits ≡ true → NumeralFacts digits
numeral_facts digits h = record { long = long; all = t2.1; small = small; first = first }
  where
    t0 : (is_number digits ≡ true) × ((length digits == 1 || not (slice_index digits 0 == 48)) ≡ true)
    t0 = both (is_number digits) (length digits == 1 || not (slice_index digits 0 == 48)) h

    t1 : ((nat_le 1 (length digits) && nat_le (length digits) 20 && list_all is_digit digits) ≡ true) × (nat_lt (value_of digits) (2 ^ 64) ≡ true)
    t1 = both (nat_le 1 (length digits) && nat_le (length digits) 20 && list_all is_digit digits) (nat_lt (value_of digits) (2 ^ 64)) t0.0

    t2 : ((nat_le 1 (length digits) && nat_le (length digits) 20) ≡ true) × (list_all is_digit digits ≡ true)
    t2 = both (nat_le 1 (length digits) && nat_le (length digits) 20) (list_all is_digit digits) t1.0

    long : 0 < length digits
    long = let e : nat_le 1 (length digits) ≡ true = (both (nat_le 1 (length digits)) (nat_le (length digits) 20) t2.0).0 in grind (arith, nat_tests)

    small : value_of digits < 2 ^ 64
    small = let e : nat_lt (value_of digits) (2 ^ 64) ≡ true = t1.1 in grind (arith, nat_tests)

    first : get_or digits 0 0 ≡ 48 → length digits ≡ 1
    first f = let e : (length digits == 1 || not (get_or digits 0 0 == 48)) ≡ true = t0.1 in grind (arith, nat_tests)

-- the digits of a numeral are what is written of its value
pub numeral_is_decimal : (n : ℕ) (digits : List ℕ) → IsNumeral n digits → digits ≡ decimal n
numeral_is_decimal n digits s =
    let f : NumeralFacts digits = numeral_facts digits s.form in
    sym (decimal-digits_value own_numbers digits f.all f.long f.first f.small) ∙ ap decimal s.value

pub decimal_is_numeral : (n : ℕ) → n < 2 ^ 64 → IsNumeral n (decimal n)
decimal_is_numeral n h = record { form = form; value = value }
  where
    value : value_of (decimal n) ≡ n
    value = digits_value-decimal own_numbers n h

    form : is_numeral (decimal n) ≡ true
    form =
        let long : nat_le 1 (length (decimal n)) ≡ true = let e : 0 < length (decimal n) = decimal_nonempty n h in grind (arith, nat_tests) in
        let short : nat_le (length (decimal n)) 20 ≡ true = let e : length (decimal n) ≤ 20 = length-decimal-le 20 n (omega arith) (omega arith) h in grind (arith, nat_tests) in
        let all : list_all is_digit (decimal n) ≡ true = digits_decimal own_numbers n h in
        let small : nat_lt n (2 ^ 64) ≡ true = grind (arith, nat_tests) in
        let lead : (length (decimal n) == 1 || not (slice_index (decimal n) 0 == 48)) ≡ true = leading (n == 0) refl in
        rw (long, short, all, value, small, lead) refl
      where
        leading : (b : Bool) → (n == 0) ≡ b → (length (decimal n) == 1 || not (slice_index (decimal n) 0 == 48)) ≡ true
        leading true e = let z : n ≡ 0 = eqb-true n 0 e in let d : decimal n ≡ (48 + n) ∷ [] = decimal_digit n (omega arith) in rw d refl
        leading false e = let p : 48 < get_or (decimal n) 0 0 = first_decimal n (let z : n ≡ 0 → ⊥ = grind (arith, nat_tests) in omega arith) h in
            let f : (slice_index (decimal n) 0 == 48) ≡ false = grind (arith, nat_tests) in
            rw f (or_true (length (decimal n) == 1))
          where
            or_true : (a : Bool) → (a || true) ≡ true
            or_true true = refl
            or_true false = refl

-- ---- keys

field_unique : (letter : ℕ) (o : Option ℕ) (a b : List ℕ) → IsField letter o a → IsField letter o b → a ≡ b
field_unique letter None a b f g = f ∙ sym g
field_unique letter (Some n) a b f g =
    let e : f.0 ≡ g.0 = numeral_is_decimal n f.0 f.2 ∙ sym (numeral_is_decimal n g.0 g.2) in
    f.1 ∙ ap (λ (d : List ℕ). 45 ∷ letter ∷ d) e ∙ sym g.1

chunk_unique : (o : Option (ℕ × ℕ)) (a b : List ℕ) → IsChunkField o a → IsChunkField o b → a ≡ b
chunk_unique None a b f g = f ∙ sym g
chunk_unique (Some c) a b f g =
    let d : f.0 ≡ g.0 = numeral_is_decimal c.0 f.0 f.3 ∙ sym (numeral_is_decimal c.0 g.0 g.3) in
    let e : f.1 ≡ g.1 = numeral_is_decimal c.1 f.1 f.4 ∙ sym (numeral_is_decimal c.1 g.1 g.4) in
    f.2 ∙ ap (λ (x : List ℕ). 45 ∷ 83 ∷ x ++ 45 ∷ 67 ∷ f.1) d ∙ ap (λ (x : List ℕ). 45 ∷ 83 ∷ g.0 ++ 45 ∷ 67 ∷ x) e ∙ sym g.2

-- a key is spelled in one way
pub spelling_unique : (key : Parts) (a b : List ℕ) → IsKey a key → IsKey b key → a ≡ b
spelling_unique key a b s t =
    let f : s.size ≡ t.size = field_unique 115 key.size s.size t.size s.size_field t.size_field in
    let g : s.mtime ≡ t.mtime = field_unique 109 key.mtime s.mtime t.mtime s.mtime_field t.mtime_field in
    let h : s.chunk ≡ t.chunk = chunk_unique key.chunk s.chunk t.chunk s.chunk_field t.chunk_field in
    s.whole ∙ rw (f, g, h) (sym t.whole)

-- a text spells one key
pub reading_unique : (text : List ℕ) (p q : Parts) → IsKey text p → IsKey text q → p ≡ q
reading_unique text p q s t = let e : key_reading text ≡ Some p = read_of_spelled text p s in let f : key_reading text ≡ Some q = read_of_spelled text q t in cc
