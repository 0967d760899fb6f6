-- The last STORE of a key, with one answer more.
use Rattle.std.proofs.Common.{ℕ, ◌≡◌, ◌↔◌, ◌⊎◌, ◌||◌, Bool, true, false, cond, List, [], ◌∷◌, ◌++◌, Option, Some, None, refl, sym, ap, subst, ◌∙◌, inl, inr, append_assoc}
use Rattle.std.specs.List.{list_any}
use Rattle.std.proofs.lemmas.List.{same_from_push}
use Rattle.std.proofs.lemmas.List.Folds.{list_any-append}
use Rattle.pair_kit.specs.declared.answer.Answer.{Answer}
use Rattle.pair_kit.specs.Shelves.{Items, content}
use Rattle.pair_kit.specs.Stored.{stores, removes, retrieves, changes, IsLastStored, GiveLastStored}
use Rattle.ann_key.proofs.Booleans.{left_false as first_false, right_false as second_false}

-- none, or some answers and a last one
abbrev HasEnd : List Answer → Type 0
HasEnd answers = (answers ≡ []) ⊎ ((front : List Answer) × (last : Answer) × (answers ≡ front ++ last ∷ []))

has_end : (answers : List Answer) → HasEnd answers
has_end [] = inl refl
has_end (a ∷ answers) = go (has_end answers)
  where
    go : HasEnd answers → HasEnd (a ∷ answers)
    go (inl e) = inr ([], a, ap (λ (l : List Answer). a ∷ l) e)
    go (inr e) = inr (a ∷ e.0, e.1, ap (λ (l : List Answer). a ∷ l) e.2)

-- nothing was answered
pub no_split : (before later : List Answer) (a : Answer) → [] ≡ before ++ a ∷ later → ⊥
no_split [] later a e = cc
no_split (b ∷ before) later a e = cc

no_bytes : (bytes : List ℕ) → None ≡ Some bytes → ⊥
no_bytes bytes e = cc

-- ---- one answer more

-- the last STORE is that answer, or it is an earlier one and that answer changes nothing
abbrev pub IsLastWith : List Answer → Answer → List ℕ → List ℕ → Type 0
IsLastWith answers a key bytes = ((stores key a ≡ true) × (a.bytes ≡ bytes)) ⊎ ((changes key a ≡ false) × IsLastStored answers key bytes)

pub last_of : (answers : List Answer) (a : Answer) (key bytes : List ℕ) → IsLastStored (answers ++ a ∷ []) key bytes → IsLastWith answers a key bytes
last_of answers a key bytes l = go (has_end l.later)
  where
    go : HasEnd l.later → IsLastWith answers a key bytes
    go (inl e) =
        let s = same_from_push answers l.before a l.store (l.splits ∙ ap (λ (x : List Answer). l.before ++ l.store ∷ x) e) in
        inl (ap (stores key) s.1 ∙ l.is_store, ap (λ (x : Answer). x.bytes) s.1 ∙ l.bytes_are)
    go (inr e) =
        let s = same_from_push answers (l.before ++ l.store ∷ e.0) a e.1
        (l.splits ∙ ap (λ (x : List Answer). l.before ++ l.store ∷ x) e.2 ∙ sym (append_assoc l.before (l.store ∷ e.0) (e.1 ∷ []))) in
        let none : (list_any (changes key) e.0 || (changes key e.1 || false)) ≡ false =
        sym (ap (list_any (changes key)) e.2 ∙ list_any-append (changes key) e.0 (e.1 ∷ [])) ∙ l.is_last in
        inr (
          ap (changes key) s.1 ∙ first_false (changes key e.1) false (second_false (list_any (changes key) e.0) (changes key e.1 || false) none),
          record {
            before = l.before;
            store = l.store;
            later = e.0;
            splits = s.0;
            is_store = l.is_store;
            bytes_are = l.bytes_are;
            is_last = first_false (list_any (changes key) e.0) (changes key e.1 || false) none;
          },
        )

stored_last : (answers : List Answer) (a : Answer) (key bytes : List ℕ) → stores key a ≡ true → a.bytes ≡ bytes → IsLastStored (answers ++ a ∷ []) key bytes
stored_last answers a key bytes is same =
    record { before = answers; store = a; later = []; splits = refl; is_store = is; bytes_are = same; is_last = refl }

stored_before : (answers : List Answer) (a : Answer) (key bytes : List ℕ) → changes key a ≡ false → IsLastStored answers key bytes → IsLastStored (answers ++ a ∷ []) key bytes
stored_before answers a key bytes calm l = record {
  before = l.before;
  store = l.store;
  later = l.later ++ a ∷ [];
  splits = ap (λ (x : List Answer). x ++ a ∷ []) l.splits ∙ append_assoc l.before (l.store ∷ l.later) (a ∷ []);
  is_store = l.is_store;
  bytes_are = l.bytes_are;
  is_last = list_any-append (changes key) l.later (a ∷ []) ∙ ap (λ (b : Bool). b || (changes key a || false)) l.is_last ∙ ap (λ (b : Bool). b || false) calm;
}

-- ---- the map of keys

-- what is stored under a key, after an answer with these bytes that stores it, removes it, or does neither
abbrev pub kept : Bool → Bool → List ℕ → Option (List ℕ) → Option (List ℕ)
kept stored removed bytes before = cond stored (Some bytes) (cond removed None before)

abbrev pub AreHeld : List Answer → Items → Type 0
AreHeld answers keys = (key bytes : List ℕ) → (content key keys ≡ Some bytes) ↔ IsLastStored answers key bytes

-- the two facts of `Keeps`
abbrev pub AreKept : List Answer → Items → Type 0
AreKept answers keys = GiveLastStored answers × AreHeld answers keys

held_more : (answers : List Answer) (a : Answer) (key bytes : List ℕ) (before : Option (List ℕ)) → ((before ≡ Some bytes) ↔ IsLastStored answers key bytes)
    → (kept (stores key a) (removes key a) a.bytes before ≡ Some bytes) ↔ IsLastStored (answers ++ a ∷ []) key bytes
held_more answers a key bytes before held = go (stores key a) refl (removes key a) refl
  where
    bytes_of : (xs ys : List ℕ) → Some xs ≡ Some ys → xs ≡ ys
    bytes_of xs ys e = cc

    neither : stores key a ≡ false → removes key a ≡ false → changes key a ≡ false
    neither s r = ap (λ (b : Bool). b || removes key a) s ∙ r

    by_store : stores key a ≡ true → IsLastWith answers a key bytes → Some a.bytes ≡ Some bytes
    by_store s (inl x) = ap Some x.1
    by_store s (inr x) = let bad : true ≡ false = sym s ∙ first_false (stores key a) (removes key a) x.0 in cc

    by_remove : stores key a ≡ false → removes key a ≡ true → IsLastWith answers a key bytes → None ≡ Some bytes
    by_remove s r (inl x) = let bad : false ≡ true = sym s ∙ x.0 in cc
    by_remove s r (inr x) = let bad : true ≡ false = sym r ∙ second_false (stores key a) (removes key a) x.0 in cc

    by_other : stores key a ≡ false → IsLastWith answers a key bytes → before ≡ Some bytes
    by_other s (inl x) = let bad : false ≡ true = sym s ∙ x.0 in cc
    by_other s (inr x) = held.1 x.1

    go : (s : Bool) → stores key a ≡ s → (r : Bool) → removes key a ≡ r → (kept s r a.bytes before ≡ Some bytes) ↔ IsLastStored (answers ++ a ∷ []) key bytes
    go true s r e = (λ h. stored_last answers a key bytes s (bytes_of a.bytes bytes h), λ l. by_store s (last_of answers a key bytes l))
    go false s true r = (λ h. absurd (no_bytes bytes h), λ l. by_remove s r (last_of answers a key bytes l))
    go false s false r = (λ h. stored_before answers a key bytes (neither s r) (held.0 h), λ l. by_other s (last_of answers a key bytes l))

pub gives_more : (answers : List Answer) (a : Answer) → GiveLastStored answers → ((key : List ℕ) → retrieves key a ≡ true → IsLastStored answers key a.bytes)
    → GiveLastStored (answers ++ a ∷ [])
gives_more answers a gives given before later b key splits is = go (has_end later)
  where
    go : HasEnd later → IsLastStored before key b.bytes
    go (inl e) =
        let s = same_from_push answers before a b (splits ∙ ap (λ (x : List Answer). before ++ b ∷ x) e) in
        subst (λ (x : List Answer). IsLastStored x key b.bytes) s.0
        (subst (λ (x : Answer). IsLastStored answers key x.bytes) s.1 (given key (ap (retrieves key) s.1 ∙ is)))
    go (inr e) =
        let s = same_from_push answers (before ++ b ∷ e.0) a e.1
        (splits ∙ ap (λ (x : List Answer). before ++ b ∷ x) e.2 ∙ sym (append_assoc before (b ∷ e.0) (e.1 ∷ []))) in
        gives before e.0 b key s.0 is

-- one answer more, which does to the keys what it says
pub kept_more : (answers : List Answer) (a : Answer) (keys new_keys : Items) → AreKept answers keys
    → ((key : List ℕ) → content key new_keys ≡ kept (stores key a) (removes key a) a.bytes (content key keys))
    → ((key : List ℕ) → retrieves key a ≡ true → IsLastStored answers key a.bytes)
    → AreKept (answers ++ a ∷ []) new_keys
kept_more answers a keys new_keys h does given = (
  gives_more answers a h.0 given,
  λ key bytes. subst (λ (o : Option (List ℕ)). (o ≡ Some bytes) ↔ IsLastStored (answers ++ a ∷ []) key bytes) (sym (does key))
      (held_more answers a key bytes (content key keys) (h.1 key bytes)),
)

-- nothing is stored before anything is answered
pub kept_none : AreKept [] []
kept_none = (
  λ before later a key splits is. absurd (no_split before later a splits),
  λ key bytes. (λ h. absurd (no_bytes bytes h), λ l. absurd (no_split l.before l.later l.store l.splits)),
)
