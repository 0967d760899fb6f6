-- Rows of a table of reading that read only what a message's row spells.
use Rattle.std.proofs.Common.{◌≡◌, ℕ, List, [], ◌∷◌, refl, sym, subst, Bool, true, false, Some, None, Option, cond}
use Rattle.std.specs.Prelude.{bytes_eq}
use Rattle.std.proofs.lemmas.Slice.Eq.{bytes_eq-Decides}
use Rattle.annex_model.specs.Messages.{Row, by_rows, bare_row, number_row, key_row, rest_row, scope_row, word_rest_row, words_rest_row, key_rest_row, transfer_row, transfer_rest_row, Followed, Param, Number, Key, Word, Rest, Direction, Scope, number_field, key_field, rest_field, scope_field, word_rest_field, words_rest_field, key_rest_field, transfer_field, transfer_rest_field}
use Rattle.annex_model.proofs.Parts.{behind}
use Rattle.annex_model.proofs.Shapes.{mapped_some, number_fills, key_fills, rest_fills, scope_fills, word_rest_fills, words_rest_fills, key_rest_fills, transfer_fills, transfer_rest_fills}

-- the row is this word, and this field follows it
abbrev pub Fills : List ℕ × List Param → List ℕ → Option (List ℕ) → Type 0
Fills row word f = (row.0 ≡ word) × Followed row.1 (behind f)

-- rows that read only what the message's row spells
module _ {M : Type 0} (row : M → List ℕ × List Param) where
  abbrev pub IsOwn : Row M → Type 0
  IsOwn r = (f : Option (List ℕ)) (m : M) → r.read f ≡ Some m → Fills (row m) r.word f

  abbrev pub AllOwn : List (Row M) → Type 0
  AllOwn [] = Unit {0}
  AllOwn (r ∷ rs) = IsOwn r × AllOwn rs

  filled : (made m : M) (word : List ℕ) (ps : List Param) (f : Option (List ℕ)) → made ≡ m → row made ≡ (word, ps) → Followed ps (behind f) → Fills (row m) word f
  filled made m word ps f e is h =
      subst (λ (x : M). Fills (row x) word f) e (subst (λ (r : List ℕ × List Param). Fills r word f) (sym is) (refl, h))

  pub bare_own : (made : M) (word : List ℕ) → row made ≡ (word, []) → IsOwn (bare_row word made)
  bare_own made word is None m h = filled made m word [] None (cc) is refl
  bare_own made word is (Some field) m h = absurd cc

  pub rest_own : (make : List ℕ → M) (word : List ℕ) → ((rest : List ℕ) → row (make rest) ≡ (word, Rest rest ∷ [])) → IsOwn (rest_row word make)
  rest_own make word is f m h = filled (make (rest_field f)) m word (Rest (rest_field f) ∷ []) f (cc) (is (rest_field f)) (rest_fills f)

  pub number_own : (make : ℕ → M) (word : List ℕ) → ((n : ℕ) → row (make n) ≡ (word, Number n ∷ [])) → IsOwn (number_row word make)
  number_own make word is f m h =
      let r = mapped_some _ (number_field f) m h in
      filled (make r.0) m word (Number r.0 ∷ []) f r.2 (is r.0) (number_fills f r.0 r.1)

  pub key_own : (make : List ℕ → M) (word : List ℕ) → ((key : List ℕ) → row (make key) ≡ (word, Key key ∷ [])) → IsOwn (key_row word make)
  key_own make word is f m h =
      let r = mapped_some _ (key_field f) m h in
      filled (make r.0) m word (Key r.0 ∷ []) f r.2 (is r.0) (key_fills f r.0 r.1)

  pub scope_own : (make : Bool → M) (word : List ℕ) → ((global : Bool) → row (make global) ≡ (word, Scope global ∷ [])) → IsOwn (scope_row word make)
  scope_own make word is f m h =
      let r = mapped_some _ (scope_field f) m h in
      filled (make r.0) m word (Scope r.0 ∷ []) f r.2 (is r.0) (scope_fills f r.0 r.1)

  pub word_rest_own : (make : List ℕ → List ℕ → M) (word : List ℕ) → ((first : List ℕ) (rest : List ℕ) → row (make first rest) ≡ (word, Word first ∷ Rest rest ∷ [])) → IsOwn (word_rest_row word make)
  word_rest_own make word is f m h =
      let r = mapped_some _ (word_rest_field f) m h in
      filled (make r.0.0 r.0.1) m word (Word r.0.0 ∷ Rest r.0.1 ∷ []) f r.2 (is r.0.0 r.0.1) (word_rest_fills f r.0 r.1)

  pub words_rest_own : (make : List ℕ → List ℕ → List ℕ → M) (word : List ℕ) → ((a : List ℕ) (b : List ℕ) (rest : List ℕ) → row (make a b rest) ≡ (word, Word a ∷ Word b ∷ Rest rest ∷ [])) → IsOwn (words_rest_row word make)
  words_rest_own make word is f m h =
      let r = mapped_some _ (words_rest_field f) m h in
      filled (make r.0.0 r.0.1.0 r.0.1.1) m word (Word r.0.0 ∷ Word r.0.1.0 ∷ Rest r.0.1.1 ∷ []) f r.2 (is r.0.0 r.0.1.0 r.0.1.1) (words_rest_fills f r.0 r.1)

  pub key_rest_own : (make : List ℕ → List ℕ → M) (word : List ℕ) → ((key : List ℕ) (rest : List ℕ) → row (make key rest) ≡ (word, Key key ∷ Rest rest ∷ [])) → IsOwn (key_rest_row word make)
  key_rest_own make word is f m h =
      let r = mapped_some _ (key_rest_field f) m h in
      filled (make r.0.0 r.0.1) m word (Key r.0.0 ∷ Rest r.0.1 ∷ []) f r.2 (is r.0.0 r.0.1) (key_rest_fills f r.0 r.1)

  pub transfer_own : (make : Bool → List ℕ → M) (word : List ℕ) → ((store : Bool) (key : List ℕ) → row (make store key) ≡ (word, Direction store ∷ Key key ∷ [])) → IsOwn (transfer_row word make)
  transfer_own make word is f m h =
      let r = mapped_some _ (transfer_field f) m h in
      filled (make r.0.0 r.0.1) m word (Direction r.0.0 ∷ Key r.0.1 ∷ []) f r.2 (is r.0.0 r.0.1) (transfer_fills f r.0 r.1)

  pub transfer_rest_own : (make : Bool → List ℕ → List ℕ → M) (word : List ℕ) → ((store : Bool) (key : List ℕ) (rest : List ℕ) → row (make store key rest) ≡ (word, Direction store ∷ Key key ∷ Rest rest ∷ [])) → IsOwn (transfer_rest_row word make)
  transfer_rest_own make word is f m h =
      let r = mapped_some _ (transfer_rest_field f) m h in
      filled (make r.0.0 r.0.1.0 r.0.1.1) m word (Direction r.0.0 ∷ Key r.0.1.0 ∷ Rest r.0.1.1 ∷ []) f r.2 (is r.0.0 r.0.1.0 r.0.1.1) (transfer_rest_fills f r.0 r.1)

  pub rows_fill : (rows : List (Row M)) → AllOwn rows → (word : List ℕ) (f : Option (List ℕ)) (m : M) → by_rows rows word f ≡ Some m → Fills (row m) word f
  rows_fill [] own word f m h = absurd cc
  rows_fill (r ∷ rs) own word f m h = go (bytes_eq word r.word) refl h (rows_fill rs own.1 word f m)
    where
      go : (b : Bool) → bytes_eq word r.word ≡ b → cond b (r.read f) (by_rows rs word f) ≡ Some m
          → (by_rows rs word f ≡ Some m → Fills (row m) word f) → Fills (row m) word f
      go true e h later = subst (λ (w : List ℕ). Fills (row m) w f) (sym ((bytes_eq-Decides word r.word).0 e)) (own.0 f m h)
      go false e h later = later h
