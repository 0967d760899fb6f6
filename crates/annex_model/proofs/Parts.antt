-- A line is its command word and what follows the first space.
use Rattle.std.proofs.Common.{◌≡◌, ℕ, List, [], ◌∷◌, ◌++◌, refl, ap, Bool, true, false, Some, None, Option, cond}
use Rattle.std.specs.Prelude.{not}
use Rattle.std.specs.List.{list_any}
use Rattle.std.proofs.lemmas.Bool.{eqb-true, and_parts as both}
use Rattle.ann_key.specs.Keys.{is_key}
use Rattle.annex_model.specs.Messages.{word_of, field_of, is_space, is_word, is_sent_key}
use Rattle.ann_key.proofs.Booleans.{left_false_not_right as neither}

abbrev pub behind : Option (List ℕ) → List ℕ
behind None = []
behind (Some field) = 32 ∷ field

pub word_and_field : (line : List ℕ) → line ≡ word_of line ++ behind (field_of line)
word_and_field [] = refl
word_and_field (b ∷ bs) = go (is_space b) refl (word_and_field bs)
  where
    go : (s : Bool) → is_space b ≡ s → bs ≡ word_of bs ++ behind (field_of bs)
        → b ∷ bs ≡ cond s [] (b ∷ word_of bs) ++ behind (cond s (Some bs) (field_of bs))
    go true e r = ap (λ (x : ℕ). x ∷ bs) (eqb-true b 32 e)
    go false e r = ap (λ (xs : List ℕ). b ∷ xs) r

pub word_of_is_word : (line : List ℕ) → is_word (word_of line) ≡ true
word_of_is_word [] = refl
word_of_is_word (b ∷ bs) = go (is_space b) refl (word_of_is_word bs)
  where
    go : (s : Bool) → is_space b ≡ s → is_word (word_of bs) ≡ true → is_word (cond s [] (b ∷ word_of bs)) ≡ true
    go true e r = refl
    go false e r = rw e r

pub sent_key_is_word : (key : List ℕ) → is_sent_key key ≡ true → is_word key ≡ true
sent_key_is_word key h = (both (is_key key) (not (list_any is_space key)) h).1

-- a word before them stays the word, and they the field
pub word_before : (word : List ℕ) (f : Option (List ℕ)) → is_word word ≡ true → word_of (word ++ behind f) ≡ word
word_before [] None h = refl
word_before [] (Some field) h = refl
word_before (b ∷ bs) f h =
    let t : (is_space b ≡ false) × (is_word bs ≡ true) = neither (is_space b) (list_any is_space bs) h in
    rw (t.0, word_before bs f t.1) refl

pub field_behind : (word : List ℕ) (f : Option (List ℕ)) → is_word word ≡ true → field_of (word ++ behind f) ≡ f
field_behind [] None h = refl
field_behind [] (Some field) h = refl
field_behind (b ∷ bs) f h =
    let t : (is_space b ≡ false) × (is_word bs ≡ true) = neither (is_space b) (list_any is_space bs) h in
    rw (t.0, field_behind bs f t.1) refl
