-- Numbers among the words.
use Rattle.std.proofs.Common.{◌≡◌, ℕ, ◌≤◌, Bool, true, false, cond, List, Some, None, refl, ap, arith}
use Rattle.std.specs.Prelude.{◌&&◌, nat_le}
use Rattle.ann_key.specs.Numbers.{is_number, is_numeral, value_of}
use Rattle.cli_words.specs.Values.{number_in, padded_number_in, IsNumberIn}
use Rattle.std.proofs.lemmas.Bool.{and_parts as both, le-leb as is_within, leb-true as within}

module _ (least most : ℕ) (text : List ℕ) (n : ℕ) where
  pub number_read : number_in least most text ≡ Some n → IsNumberIn least most text n
  number_read h = go (is_numeral text && (nat_le least (value_of text) && nat_le (value_of text) most)) refl h
    where
      go : (b : Bool) → (is_numeral text && (nat_le least (value_of text) && nat_le (value_of text) most)) ≡ b → cond b (Some (value_of text)) None ≡ Some n → IsNumberIn least most text n
      go false e h = absurd cc
      go true e h =
          let same : value_of text ≡ n = cc in
          let parts = both (is_numeral text) _ e in
          let ends = both (nat_le least (value_of text)) _ parts.1 in
          let low : least ≤ value_of text = within least (value_of text) ends.0 in
          let high : value_of text ≤ most = within (value_of text) most ends.1 in
          record { numeral = record { form = parts.0; value = same }; least_one = omega arith; most_one = omega arith }

  pub padded_read : padded_number_in least most text ≡ Some n → (least ≤ n) × (n ≤ most)
  padded_read h = go (is_number text && (nat_le least (value_of text) && nat_le (value_of text) most)) refl h
    where
      go : (b : Bool) → (is_number text && (nat_le least (value_of text) && nat_le (value_of text) most)) ≡ b → cond b (Some (value_of text)) None ≡ Some n → (least ≤ n) × (n ≤ most)
      go false e h = absurd cc
      go true e h =
          let same : value_of text ≡ n = cc in
          let parts = both (is_number text) _ e in
          let ends = both (nat_le least (value_of text)) _ parts.1 in
          let low : least ≤ value_of text = within least (value_of text) ends.0 in
          let high : value_of text ≤ most = within (value_of text) most ends.1 in
          (omega arith, omega arith)

  pub number_given : IsNumberIn least most text n → number_in least most text ≡ Some n
  number_given is =
      let same : value_of text ≡ n = is.numeral.value in
      let low : nat_le least (value_of text) ≡ true = is_within least (value_of text) (let h = is.least_one in omega arith) in
      let high : nat_le (value_of text) most ≡ true = is_within (value_of text) most (let h = is.most_one in omega arith) in
      rw (is.numeral.form, low, high) (ap (λ v. Some v) same)
