-- A line is read as tagged exactly where it is.
use Rattle.std.proofs.Common.{◌≡◌, ℕ, ◌<◌, ◌^◌, List, [], ◌∷◌, ◌++◌, refl, ap, subst, Bool, true, false, Some, None, Option, cond}
use Rattle.std.specs.Prelude.{◌==◌, ◌&&◌, ◌||◌, not, nat_le, nat_lt, length, slice_index, decimal}
use Rattle.std.specs.List.{list_all}
use Rattle.std.proofs.lemmas.Bool.{eqb-true, and_parts as both}
use Rattle.ann_key.specs.Numbers.{is_digit, is_number, value_of}
use Rattle.ann_key.proofs.Unique.{decimal_is_numeral}
use Rattle.annex_model.specs.Messages.{word_of, field_of, is_space, number_field}
use Rattle.annex_model.specs.Tags.{Tagged, untag, tagged_line, numbered}
use Rattle.annex_model.proofs.Parts.{word_and_field, behind}

-- digits hold no space
digit_no_space : (b : ℕ) → is_digit b ≡ true → is_space b ≡ false
digit_no_space b h = go (is_space b) refl
  where
    go : (s : Bool) → is_space b ≡ s → is_space b ≡ false
    go false e = e
    go true e = let is : b ≡ 32 = eqb-true b 32 e in let bad : is_digit 32 ≡ true = subst (λ (x : ℕ). is_digit x ≡ true) is h in absurd cc

digits_word : (digits rest : List ℕ) → list_all is_digit digits ≡ true → word_of (digits ++ 32 ∷ rest) ≡ digits
digits_word [] rest h = refl
digits_word (d ∷ ds) rest h =
    let t : (is_digit d ≡ true) × (list_all is_digit ds ≡ true) = both (is_digit d) (list_all is_digit ds) h in
    rw (digit_no_space d t.0, digits_word ds rest t.1) refl

digits_field : (digits rest : List ℕ) → list_all is_digit digits ≡ true → field_of (digits ++ 32 ∷ rest) ≡ Some rest
digits_field [] rest h = refl
digits_field (d ∷ ds) rest h =
    let t : (is_digit d ≡ true) × (list_all is_digit ds ≡ true) = both (is_digit d) (list_all is_digit ds) h in
    rw (digit_no_space d t.0, digits_field ds rest t.1) refl

number_digits : (digits : List ℕ) → is_number digits ≡ true → list_all is_digit digits ≡ true
number_digits digits h =
    let a = both (nat_le 1 (length digits) && nat_le (length digits) 20 && list_all is_digit digits) (nat_lt (value_of digits) (2 ^ 64)) h in
    (both (nat_le 1 (length digits) && nat_le (length digits) 20) (list_all is_digit digits) a.0).1

pub read_of_tagged : (line : List ℕ) (number : ℕ) (rest : List ℕ) → Tagged line number rest → untag line ≡ Some (number, rest)
read_of_tagged line number rest t =
    let digits = number_digits t.digits t.form in
    let whole : line ≡ 74 ∷ 32 ∷ (t.digits ++ 32 ∷ rest) = t.whole in
    rw (whole, digits_word t.digits rest digits, digits_field t.digits rest digits, t.form, t.value) refl

-- the line that is written for a number of 64 bits gives it back
pub untag_of_tagged : (number : ℕ) (message : List ℕ) → number < 2 ^ 64 → untag (tagged_line number message) ≡ Some (number, message)
untag_of_tagged number message h =
    let d = decimal_is_numeral number h in
    let t : Tagged (tagged_line number message) number message = record {
      digits = decimal number;
      whole = refl;
      form = (both (is_number (decimal number)) (length (decimal number) == 1 || not (slice_index (decimal number) 0 == 48)) d.form).0;
      value = d.value;
    } in
    read_of_tagged (tagged_line number message) number message t

pub tagged_of_read : (line : List ℕ) (number : ℕ) (rest : List ℕ) → untag line ≡ Some (number, rest) → Tagged line number rest
tagged_of_read [] number rest h = absurd cc
tagged_of_read (a ∷ []) number rest h = absurd cc
tagged_of_read (a ∷ (b ∷ more)) number rest h = go (a == 74 && b == 32) refl h
  where
    by_field : (a ≡ 74) → (b ≡ 32) → (digits : List ℕ) (f : Option (List ℕ)) → more ≡ digits ++ behind f
        → (n : Bool) → is_number digits ≡ n → numbered (cond {A = Option ℕ} n (Some (value_of digits)) None) f ≡ Some (number, rest)
        → Tagged (a ∷ b ∷ more) number rest
    by_field ea eb digits f e false w h = absurd cc
    by_field ea eb digits None e true w h = absurd cc
    by_field ea eb digits (Some text) e true w h =
        let P : ◌≡◌ {A = ℕ × List ℕ} (value_of digits, text) (number, rest) = cc in
        record {
          digits = digits;
          whole = rw (ea, eb, e) (ap (λ (x : List ℕ). 74 ∷ 32 ∷ (digits ++ 32 ∷ x)) (ap (λ (p : ℕ × List ℕ). p.1) P));
          form = w;
          value = ap (λ (p : ℕ × List ℕ). p.0) P;
        }

    go : (t : Bool) → (a == 74 && b == 32) ≡ t
        → cond {A = Option (ℕ × List ℕ)} t (numbered (number_field (Some (word_of more))) (field_of more)) None ≡ Some (number, rest)
        → Tagged (a ∷ b ∷ more) number rest
    go false e h = absurd cc
    go true e h =
        let t : ((a == 74) ≡ true) × ((b == 32) ≡ true) = both (a == 74) (b == 32) e in
        by_field (eqb-true a 74 t.0) (eqb-true b 32 t.1) (word_of more) (field_of more) (word_and_field more) (is_number (word_of more)) refl h
