-- The parameters of each shape: what is spelled is read, and what is read is spelled.
use Rattle.std.proofs.Common.{◌≡◌, ℕ, List, [], ◌∷◌, ◌++◌, refl, sym, ap, subst, ◌∙◌, Bool, true, false, Some, None, Option, cond, inl, inr}
use Rattle.std.specs.Prelude.{codes, bytes_eq, option_map, option_and_then}
use Rattle.std.proofs.lemmas.List.{append-nil}
use Rattle.std.proofs.lemmas.Slice.Eq.{bytes_eq-Decides}
use Rattle.ann_key.specs.Numbers.{is_number, value_of}
use Rattle.annex_model.specs.Messages.{Followed, Spelled, is_word, Param, Number, Key, Word, Rest, Direction, Scope, direction_word, scope_word, direction_of, word_of, field_of, is_sent_key, number_field, key_field, rest_field, scope_field, word_rest_field, words_rest_field, key_rest_field, transfer_field, transfer_rest_field}
use Rattle.annex_model.proofs.Parts.{behind, word_and_field, word_of_is_word, sent_key_is_word, word_before, field_behind}

-- ---- what is spelled is read

-- what follows the word is this field, which is read so
pub record Reads (tail : List ℕ) (P : Option (List ℕ) → Type 0) : Type 0 where
  pub field : Option (List ℕ)
  pub whole : tail ≡ behind field
  pub read : P field

alone : (tail field more : List ℕ) → tail ≡ 32 ∷ field ++ more → more ≡ [] → tail ≡ 32 ∷ field
alone tail field more e none = e ∙ ap (λ (x : List ℕ). 32 ∷ x) (ap (λ (x : List ℕ). field ++ x) none ∙ append-nil field)

pub bare_reads : (tail : List ℕ) → Followed [] tail → Reads tail (λ f. f ≡ None)
bare_reads tail h = record { field = None; whole = h; read = refl }

pub number_reads : (n : ℕ) (tail : List ℕ) → Followed (Number n ∷ []) tail → Reads tail (λ f. number_field f ≡ Some n)
number_reads n tail h = record { field = Some h.0; whole = alone tail h.0 h.1 h.2 h.4; read = rw (h.3.0, h.3.1) refl }

pub key_reads : (key : List ℕ) (tail : List ℕ) → Followed (Key key ∷ []) tail → Reads tail (λ f. key_field f ≡ Some key)
key_reads key tail h = record {
  field = Some key;
  whole = alone tail h.0 h.1 h.2 h.4 ∙ ap (λ (x : List ℕ). 32 ∷ x) h.3.0;
  read = rw h.3.1 refl;
}

pub rest_reads : (rest tail : List ℕ) → Followed (Rest rest ∷ []) tail → Reads tail (λ f. rest_field f ≡ rest)
rest_reads rest tail (inl h) = record { field = Some rest; whole = h; read = refl }
rest_reads rest tail (inr h) = record { field = None; whole = h.0; read = sym h.1 }

scope_back : (global : Bool) → scope_field (Some (scope_word global)) ≡ Some global
scope_back true = refl
scope_back false = refl

pub scope_reads : (global : Bool) (tail : List ℕ) → Followed (Scope global ∷ []) tail → Reads tail (λ f. scope_field f ≡ Some global)
scope_reads global tail h = record {
  field = Some (scope_word global);
  whole = alone tail h.0 h.1 h.2 h.4 ∙ ap (λ (x : List ℕ). 32 ∷ x) h.3;
  read = scope_back global;
}

-- a word, and then what is read from more
pub first_reads : (word tail field more : List ℕ) (P : Option (List ℕ) → Type 0) → tail ≡ 32 ∷ field ++ more → field ≡ word → Reads more P
    → Reads tail (λ f. (g : Option (List ℕ)) × (f ≡ Some (word ++ behind g)) × P g)
first_reads word tail field more P e is r = record {
  field = Some (word ++ behind r.field);
  whole = rw (e, is, r.whole) refl;
  read = (r.field, refl, r.read);
}

pub mapped_reads : (tail : List ℕ) (P Q : Option (List ℕ) → Type 0) → Reads tail P → ((f : Option (List ℕ)) → P f → Q f) → Reads tail Q
mapped_reads tail P Q r h = record { field = r.field; whole = r.whole; read = h r.field r.read }

pub word_rest_reads : (word rest tail : List ℕ) → Followed (Word word ∷ Rest rest ∷ []) tail
    → Reads tail (λ f. word_rest_field f ≡ Some (word, rest))
word_rest_reads word rest tail h =
    mapped_reads tail _ _ (first_reads word tail h.0 h.1 _ h.2 h.3.0 (rest_reads rest h.1 h.4))
    (λ f r. rw (r.1, word_before word r.0 h.3.1, field_behind word r.0 h.3.1, r.2) refl)

pub words_rest_reads : (a b rest tail : List ℕ) → Followed (Word a ∷ Word b ∷ Rest rest ∷ []) tail
    → Reads tail (λ f. words_rest_field f ≡ Some (a, (b, rest)))
words_rest_reads a b rest tail h =
    mapped_reads tail _ _ (first_reads a tail h.0 h.1 _ h.2 h.3.0 (word_rest_reads b rest h.1 h.4))
    (λ f r. rw (r.1, word_before a r.0 h.3.1, field_behind a r.0 h.3.1, r.2) refl)

pub key_rest_reads : (key rest tail : List ℕ) → Followed (Key key ∷ Rest rest ∷ []) tail
    → Reads tail (λ f. key_rest_field f ≡ Some (key, rest))
key_rest_reads key rest tail h =
    let w = sent_key_is_word key h.3.1 in
    mapped_reads tail _ _ (first_reads key tail h.0 h.1 _ h.2 h.3.0 (rest_reads rest h.1 h.4))
    (λ f r. rw (r.1, word_before key r.0 w, field_behind key r.0 w, h.3.1, r.2) refl)

direction_back : (store : Bool) → direction_of (direction_word store) ≡ Some store
direction_back true = refl
direction_back false = refl

direction_is_word : (store : Bool) → is_word (direction_word store) ≡ true
direction_is_word true = refl
direction_is_word false = refl

pub transfer_reads : (store : Bool) (key tail : List ℕ) → Followed (Direction store ∷ Key key ∷ []) tail
    → Reads tail (λ f. transfer_field f ≡ Some (store, key))
transfer_reads store key tail h =
    let w = direction_is_word store in
    mapped_reads tail _ _ (first_reads (direction_word store) tail h.0 h.1 _ h.2 h.3 (key_reads key h.1 h.4))
    (λ f r. rw (r.1, word_before (direction_word store) r.0 w, field_behind (direction_word store) r.0 w, direction_back store, r.2) refl)

pub transfer_rest_reads : (store : Bool) (key rest tail : List ℕ) → Followed (Direction store ∷ Key key ∷ Rest rest ∷ []) tail
    → Reads tail (λ f. transfer_rest_field f ≡ Some (store, (key, rest)))
transfer_rest_reads store key rest tail h =
    let w = direction_is_word store in
    mapped_reads tail _ _ (first_reads (direction_word store) tail h.0 h.1 _ h.2 h.3 (key_rest_reads key rest h.1 h.4))
    (λ f r. rw (r.1, word_before (direction_word store) r.0 w, field_behind (direction_word store) r.0 w, direction_back store, r.2) refl)

-- ---- what is read is spelled

pub mapped_some : {A B : Type 0} (g : A → B) (o : Option A) (b : B) → option_map g o ≡ Some b → (a : A) × (o ≡ Some a) × (g a ≡ b)
mapped_some g None b h = absurd cc
mapped_some g (Some a) b h = (a, refl, cc)

chained_some : {A B : Type 0} (g : A → Option B) (o : Option A) (b : B) → option_and_then g o ≡ Some b → (a : A) × (o ≡ Some a) × (g a ≡ Some b)
chained_some g None b h = absurd cc
chained_some g (Some a) b h = (a, refl, h)

pub single : (field : List ℕ) → 32 ∷ field ≡ 32 ∷ field ++ []
single field = sym (ap (λ (x : List ℕ). 32 ∷ x) (append-nil field))

pub number_fills : (f : Option (List ℕ)) (n : ℕ) → number_field f ≡ Some n → Followed (Number n ∷ []) (behind f)
number_fills None n h = absurd cc
number_fills (Some field) n h = go (is_number field) refl h
  where
    go : (b : Bool) → is_number field ≡ b → cond b (Some (value_of field)) None ≡ Some n → Followed (Number n ∷ []) (32 ∷ field)
    go false e h = absurd cc
    go true e h = let v : value_of field ≡ n = cc in (field, [], single field, (e, v), refl)

key_is : (field key : List ℕ) → key_field (Some field) ≡ Some key → (field ≡ key) × (is_sent_key key ≡ true)
key_is field key h = go (is_sent_key field) refl h
  where
    go : (b : Bool) → is_sent_key field ≡ b → cond b (Some field) None ≡ Some key → (field ≡ key) × (is_sent_key key ≡ true)
    go false e h = absurd cc
    go true e h = let k : field ≡ key = cc in (k, subst (λ (x : List ℕ). is_sent_key x ≡ true) k e)

pub key_fills : (f : Option (List ℕ)) (key : List ℕ) → key_field f ≡ Some key → Followed (Key key ∷ []) (behind f)
key_fills None key h = absurd cc
key_fills (Some field) key h = (field, [], single field, key_is field key h, refl)

pub rest_fills : (f : Option (List ℕ)) → Followed (Rest (rest_field f) ∷ []) (behind f)
rest_fills None = inr (refl, refl)
rest_fills (Some field) = inl refl

-- which of two words it is
which : (word a b : List ℕ) (r : Bool) (word_for : Bool → List ℕ) → word_for true ≡ a → word_for false ≡ b
    → cond (bytes_eq word a) (Some true) (cond (bytes_eq word b) (Some false) None) ≡ Some r → word ≡ word_for r
which word a b r word_for at af h = go (bytes_eq word a) refl (bytes_eq word b) refl h
  where
    go : (s : Bool) → bytes_eq word a ≡ s → (t : Bool) → bytes_eq word b ≡ t
        → cond s (Some true) (cond t (Some false) None) ≡ Some r → word ≡ word_for r
    go true e t _ h = let is : true ≡ r = cc in (bytes_eq-Decides word a).0 e ∙ sym at ∙ ap word_for is
    go false _ true e h = let is : false ≡ r = cc in (bytes_eq-Decides word b).0 e ∙ sym af ∙ ap word_for is
    go false _ false _ h = absurd cc

direction_is : (word : List ℕ) (store : Bool) → direction_of word ≡ Some store → word ≡ direction_word store
direction_is word store h = which word (codes "STORE") (codes "RETRIEVE") store direction_word refl refl h

pub scope_fills : (f : Option (List ℕ)) (global : Bool) → scope_field f ≡ Some global → Followed (Scope global ∷ []) (behind f)
scope_fills None global h = absurd cc
scope_fills (Some field) global h =
    (field, [], single field, which field (codes "GLOBAL") (codes "LOCAL") global scope_word refl refl h, refl)

-- the first parameter by the word, and the others by what follows it
first_fills : (field : List ℕ) (p q : Param) (ps : List Param) → Spelled p (word_of field) → Followed (q ∷ ps) (behind (field_of field))
    → Followed (p ∷ q ∷ ps) (32 ∷ field)
first_fills field p q ps s more = go p s
  where
    whole : 32 ∷ field ≡ 32 ∷ word_of field ++ behind (field_of field)
    whole = ap (λ (x : List ℕ). 32 ∷ x) (word_and_field field)

    go : (p : Param) → Spelled p (word_of field) → Followed (p ∷ q ∷ ps) (32 ∷ field)
    go (Number n) s = (word_of field, behind (field_of field), whole, s, more)
    go (Key key) s = (word_of field, behind (field_of field), whole, s, more)
    go (Word word) s = (word_of field, behind (field_of field), whole, s, more)
    go (Rest rest) s = (word_of field, behind (field_of field), whole, s, more)
    go (Direction store) s = (word_of field, behind (field_of field), whole, s, more)
    go (Scope global) s = (word_of field, behind (field_of field), whole, s, more)

pub word_rest_fills : (f : Option (List ℕ)) (r : List ℕ × List ℕ) → word_rest_field f ≡ Some r → Followed (Word r.0 ∷ Rest r.1 ∷ []) (behind f)
word_rest_fills None r h = absurd cc
word_rest_fills (Some field) r h =
    let is : ◌≡◌ {A = List ℕ × List ℕ} (word_of field, rest_field (field_of field)) r = cc in
    subst (λ (x : List ℕ × List ℕ). Followed (Word x.0 ∷ Rest x.1 ∷ []) (32 ∷ field)) is
    (first_fills field (Word (word_of field)) (Rest (rest_field (field_of field))) [] (refl, word_of_is_word field) (rest_fills (field_of field)))

pub words_rest_fills : (f : Option (List ℕ)) (r : List ℕ × (List ℕ × List ℕ)) → words_rest_field f ≡ Some r
    → Followed (Word r.0 ∷ Word r.1.0 ∷ Rest r.1.1 ∷ []) (behind f)
words_rest_fills None r h = absurd cc
words_rest_fills (Some field) r h =
    let m = mapped_some _ (word_rest_field (field_of field)) r h in
    subst (λ (x : List ℕ × (List ℕ × List ℕ)). Followed (Word x.0 ∷ Word x.1.0 ∷ Rest x.1.1 ∷ []) (32 ∷ field)) m.2
    (first_fills field (Word (word_of field)) (Word m.0.0) (Rest m.0.1 ∷ []) (refl, word_of_is_word field) (word_rest_fills (field_of field) m.0 m.1))

pub key_rest_fills : (f : Option (List ℕ)) (r : List ℕ × List ℕ) → key_rest_field f ≡ Some r → Followed (Key r.0 ∷ Rest r.1 ∷ []) (behind f)
key_rest_fills None r h = absurd cc
key_rest_fills (Some field) r h =
    let m = mapped_some _ (key_field (Some (word_of field))) r h in
    subst (λ (x : List ℕ × List ℕ). Followed (Key x.0 ∷ Rest x.1 ∷ []) (32 ∷ field)) m.2
    (first_fills field (Key m.0) (Rest (rest_field (field_of field))) [] (key_is (word_of field) m.0 m.1) (rest_fills (field_of field)))

pub transfer_fills : (f : Option (List ℕ)) (r : Bool × List ℕ) → transfer_field f ≡ Some r → Followed (Direction r.0 ∷ Key r.1 ∷ []) (behind f)
transfer_fills None r h = absurd cc
transfer_fills (Some field) r h =
    let d = chained_some _ (direction_of (word_of field)) r h in
    let m = mapped_some _ (key_field (field_of field)) r d.2 in
    subst (λ (x : Bool × List ℕ). Followed (Direction x.0 ∷ Key x.1 ∷ []) (32 ∷ field)) m.2
    (first_fills field (Direction d.0) (Key m.0) [] (direction_is (word_of field) d.0 d.1) (key_fills (field_of field) m.0 m.1))

pub transfer_rest_fills : (f : Option (List ℕ)) (r : Bool × (List ℕ × List ℕ)) → transfer_rest_field f ≡ Some r
    → Followed (Direction r.0 ∷ Key r.1.0 ∷ Rest r.1.1 ∷ []) (behind f)
transfer_rest_fills None r h = absurd cc
transfer_rest_fills (Some field) r h =
    let d = chained_some _ (direction_of (word_of field)) r h in
    let m = mapped_some _ (key_rest_field (field_of field)) r d.2 in
    subst (λ (x : Bool × (List ℕ × List ℕ)). Followed (Direction x.0 ∷ Key x.1.0 ∷ Rest x.1.1 ∷ []) (32 ∷ field)) m.2
    (first_fills field (Direction d.0) (Key m.0.0) (Rest m.0.1 ∷ []) (direction_is (word_of field) d.0 d.1) (key_rest_fills (field_of field) m.0 m.1))
