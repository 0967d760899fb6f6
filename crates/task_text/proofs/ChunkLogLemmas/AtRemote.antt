-- Notes in order: those of a key at a remote stand together, after its first place.
use Rattle.std.proofs.Common.{◌≡◌, ℕ, ◌<◌, Bool, true, false, not, cond, List, [], ◌∷◌, refl, sym, ap, subst, ◌∙◌, arith}
use Rattle.std.specs.Prelude.{◌&&◌, filter, map, bytes_eq}
use Rattle.std.specs.List.{list_all}
use Rattle.std.specs.Cmp.Derive.{both_true}
use Rattle.std.specs.Cmp.Lexicographic.{slice_cmp}
use Rattle.std.specs.Ordering.{is_le, is_lt, nat_cmp, ordering_reverse, ordering_then}
use Rattle.std.specs.declared.cmp.Ordering.{Ordering}
use Rattle.std.specs.declared.cmp.Ordering.TheVariants.{Less, Equal, Greater}
use Rattle.std.proofs.lemmas.Bool.{and_parts, false≢true, false_from_ne_true, not-true}
use Rattle.std.proofs.lemmas.Cmp.{nat_list_cmp_total, tied_itself, ranked}
use Rattle.std.proofs.lemmas.Slice.Eq.{bytes_eq-Decides}
use Rattle.task_text.specs.ChunkLog.Current.{first_place, in_rank, is_at, is_current, ranked_all, standing_of, standings_of}
use Rattle.task_text.specs.ChunkLog.NoteBooks.{in_order, is_before, place_cmp}
use Rattle.task_text.specs.declared.chunk_log.note.Note.{Note}
use Rattle.task_text.specs.declared.chunk_log.standing.Standing.{Standing}
use Rattle.task_text.proofs.ChunkLogLemmas.Places.{place_total, same_text, tied}
use Rattle.ann_key.proofs.Orderings.{less}

not_below : (n : ℕ) (o : Ordering) → o ≡ nat_cmp n 0 → is_lt o ≡ false
not_below n Less h = let less : n < 0 = ranked n 0 Less h in absurd (omega arith)
not_below n Equal h = refl
not_below n Greater h = refl

module _ (key uuid : List ℕ) where
  -- how a note's key and UUID compare with these
  abbrev head_cmp : Note → Ordering
  head_cmp x = ordering_then (slice_cmp nat_cmp x.key key) (slice_cmp nat_cmp x.line.uuid uuid)

  then_none : (o : Ordering) (n : ℕ) → is_lt (ordering_then o (nat_cmp n 0)) ≡ is_lt o
  then_none Less n = refl
  then_none Equal n = not_below n (nat_cmp n 0) refl
  then_none Greater n = refl

  -- no chunk size is below the first place's
  pub earlier : (x : Note) → is_before x (first_place key uuid) ≡ is_lt (head_cmp x)
  earlier x = then_none (head_cmp x) x.line.chunk

  -- a note of the key at the remote
  at_parts : (x : Note) → is_at key uuid x ≡ true → (x.key ≡ key) × (x.line.uuid ≡ uuid)
  at_parts x at = let p = and_parts (bytes_eq x.key key) (bytes_eq x.line.uuid uuid) at in ((bytes_eq-Decides x.key key).0 p.0, (bytes_eq-Decides x.line.uuid uuid).0 p.1)

  at_is : (x : Note) → is_at key uuid x ≡ true → head_cmp x ≡ Equal
  at_is x at =
      let p = at_parts x at in
      ap (λ (t : List ℕ). ordering_then (slice_cmp nat_cmp t key) (slice_cmp nat_cmp x.line.uuid uuid)) p.0
      ∙ ap (λ (t : List ℕ). ordering_then (slice_cmp nat_cmp key key) (slice_cmp nat_cmp t uuid)) p.1
      ∙ ap (λ (o : Ordering). ordering_then o (slice_cmp nat_cmp uuid uuid)) (tied_itself nat_list_cmp_total key)
      ∙ tied_itself nat_list_cmp_total uuid

  is_at-equal : (x : Note) → head_cmp x ≡ Equal → is_at key uuid x ≡ true
  is_at-equal x e =
      let p = tied (slice_cmp nat_cmp x.key key) (slice_cmp nat_cmp x.line.uuid uuid) e in
      rw ((bytes_eq-Decides x.key key).1 (same_text x.key key p.0), (bytes_eq-Decides x.line.uuid uuid).1 (same_text x.line.uuid uuid p.1)) refl

  -- after a note that stands at or after the first place, and is not of them, none is
  passed : (x y : Note) (o : Ordering) → head_cmp x ≡ o → is_lt o ≡ false → is_at key uuid x ≡ false → is_before x y ≡ true → is_at key uuid y ≡ true → ⊥
  passed x y Less e low off next at = false≢true (sym low)
  passed x y Equal e low off next at = false≢true (sym off ∙ is_at-equal x e)
  passed x y Greater e low off next at =
      let p = at_parts y at in
      let same : place_cmp x y ≡ ordering_then (head_cmp x) (nat_cmp x.line.chunk y.line.chunk) =
      ap (λ (t : List ℕ). ordering_then (ordering_then (slice_cmp nat_cmp x.key t) (slice_cmp nat_cmp x.line.uuid y.line.uuid)) (nat_cmp x.line.chunk y.line.chunk)) p.0
      ∙ ap (λ (t : List ℕ). ordering_then (ordering_then (slice_cmp nat_cmp x.key key) (slice_cmp nat_cmp x.line.uuid t)) (nat_cmp x.line.chunk y.line.chunk)) p.1 in
      let greater : place_cmp x y ≡ Greater = same ∙ ap (λ (o : Ordering). ordering_then o (nat_cmp x.line.chunk y.line.chunk)) e in
      absurd (let bad : Less ≡ Greater = sym (less (place_cmp x y) next) ∙ greater in cc)

  -- ---- lists of notes

  off_current : (x : Note) → is_at key uuid x ≡ false → is_current key uuid x ≡ false
  off_current x off = rw off refl

  skip : (x : Note) (xs : List Note) → is_current key uuid x ≡ false → filter (is_current key uuid) (x ∷ xs) ≡ filter (is_current key uuid) xs
  skip x xs off = rw off refl

  none_left : (x : Note) (xs : List Note) → is_before x (first_place key uuid) ≡ false → is_at key uuid x ≡ false → list_all (is_before x) xs ≡ true → filter (is_current key uuid) xs ≡ []
  none_left x [] low off all = refl
  none_left x (y ∷ ys) low off all =
      let p = and_parts (is_before x y) (list_all (is_before x) ys) all in
      let away : is_at key uuid y ≡ false = false_from_ne_true (is_at key uuid y) (λ at. passed x y (head_cmp x) refl (sym (earlier x) ∙ low) off p.0 at) in
      skip y ys (off_current y away) ∙ none_left x ys low off p.1

  -- none of them stands before the first place
  before_none : (x : Note) → is_before x (first_place key uuid) ≡ true → is_current key uuid x ≡ false
  before_none x early =
      off_current x (false_from_ne_true (is_at key uuid x) (λ at. false≢true (sym (ap is_lt (at_is x at)) ∙ (sym (earlier x) ∙ early))))

  abbrev q : Note → Bool
  q x = is_before x (first_place key uuid)

  -- ---- the notes from the first place on

  abbrev pub from : Note → Bool
  from x = is_le (place_cmp (first_place key uuid) x) && not false

  from_is : (x : Note) → from x ≡ not (q x)
  from_is x = ap (λ (o : Ordering). is_le o && not false) (place_total.antisymm (first_place key uuid) x) ∙ go (place_cmp x (first_place key uuid))
    where
      go : (o : Ordering) → (is_le (ordering_reverse o) && not false) ≡ not (is_lt o)
      go Less = refl
      go Equal = refl
      go Greater = refl

  -- the notes of the key at the remote are all among them
  kept : (xs : List Note) → filter (is_current key uuid) (filter from xs) ≡ filter (is_current key uuid) xs
  kept [] = refl
  kept (x ∷ xs) = go (q x) refl (kept xs)
    where
      turn : (b : Bool) → q x ≡ b → filter (is_current key uuid) (filter from (x ∷ xs)) ≡ filter (is_current key uuid) (cond (not b) (x ∷ filter from xs) (filter from xs))
      turn b e = ap (λ (t : Bool). filter (is_current key uuid) (cond t (x ∷ filter from xs) (filter from xs))) (from_is x ∙ ap not e)

      go : (b : Bool) → q x ≡ b → filter (is_current key uuid) (filter from xs) ≡ filter (is_current key uuid) xs
          → filter (is_current key uuid) (filter from (x ∷ xs)) ≡ filter (is_current key uuid) (x ∷ xs)
      go true e rest = turn true e ∙ rest ∙ sym (skip x xs (before_none x e))
      go false e rest = turn false e ∙ ap (λ (l : List Note). cond (is_current key uuid x) (x ∷ l) l) rest

  -- notes of which none stands before the first place
  pub record AreBehind (xs : List Note) : Type 0 where
    pub order : in_order xs ≡ true
    pub none_before : list_all (λ x. not (q x)) xs ≡ true

  all_filtered : (test : Note → Bool) (xs : List Note) → list_all test xs ≡ true → list_all test (filter from xs) ≡ true
  all_filtered test [] all = refl
  all_filtered test (x ∷ xs) all =
      let p = and_parts (test x) (list_all test xs) all in go (from x) p.0 (all_filtered test xs p.1)
    where
      go : (b : Bool) → test x ≡ true → list_all test (filter from xs) ≡ true → list_all test (cond b (x ∷ filter from xs) (filter from xs)) ≡ true
      go true first rest = both_true first rest
      go false first rest = rest

  ordered : (xs : List Note) → in_order xs ≡ true → in_order (filter from xs) ≡ true
  ordered [] order = refl
  ordered (x ∷ xs) order =
      let p = and_parts (list_all (is_before x) xs) (in_order xs) order in go (from x) (all_filtered (is_before x) xs p.0) (ordered xs p.1)
    where
      go : (b : Bool) → list_all (is_before x) (filter from xs) ≡ true → in_order (filter from xs) ≡ true → in_order (cond b (x ∷ filter from xs) (filter from xs)) ≡ true
      go true first rest = both_true first rest
      go false first rest = rest

  none_early : (xs : List Note) → list_all (λ x. not (q x)) (filter from xs) ≡ true
  none_early [] = refl
  none_early (x ∷ xs) = go (from x) (sym (from_is x)) (none_early xs)
    where
      go : (b : Bool) → not (q x) ≡ b → list_all (λ x. not (q x)) (filter from xs) ≡ true → list_all (λ x. not (q x)) (cond b (x ∷ filter from xs) (filter from xs)) ≡ true
      go true e rest = both_true e rest
      go false e rest = rest

  -- ---- their standings, one after the other

  -- what is ranked, and what is left to be: in all what stands of the notes
  pub record AreRanking (notes rest : List Note) (ranks : List Standing) : Type 0 where
    pub behind : AreBehind rest
    pub whole : ranked_all (standings_of rest key uuid) ranks ≡ in_rank (standings_of notes key uuid)

  pub begun : (notes rest : List Note) → in_order notes ≡ true → rest ≡ filter from notes → AreRanking notes rest []
  begun notes rest order is =
      subst (λ (l : List Note). AreRanking notes l []) (sym is) (record {
        behind = record { order = ordered notes order; none_before = none_early notes };
        whole = ap (λ (l : List Note). in_rank (map standing_of l)) (kept notes);
      })

  behind_first : (x : Note) (rest : List Note) → AreBehind (x ∷ rest) → AreBehind rest
  behind_first x rest r = record {
    order = (and_parts (list_all (is_before x) rest) (in_order rest) r.order).1;
    none_before = (and_parts (not (q x)) (list_all (λ z. not (q z)) rest) r.none_before).1;
  }

  one_by_one : (x : Note) (rest : List Note) (ranks : List Standing) → ranked_all (standings_of rest key uuid) (ranked_all (standings_of (x ∷ []) key uuid) ranks) ≡ ranked_all (standings_of (x ∷ rest) key uuid) ranks
  one_by_one x rest ranks = go (is_current key uuid x)
    where
      go : (b : Bool) → ranked_all (standings_of rest key uuid) (ranked_all (map standing_of (cond b (x ∷ []) [])) ranks)
          ≡ ranked_all (map standing_of (cond b (x ∷ filter (is_current key uuid) rest) (filter (is_current key uuid) rest))) ranks
      go true = refl
      go false = refl

  pub gone_on : (notes rest more : List Note) (x : Note) (ranks next : List Standing) → AreRanking notes rest ranks → rest ≡ x ∷ more
      → next ≡ ranked_all (standings_of (x ∷ []) key uuid) ranks → AreRanking notes more next
  gone_on notes rest more x ranks next r is so =
      let here : AreRanking notes (x ∷ more) ranks = subst (λ (l : List Note). AreRanking notes l ranks) is r in
      record {
        behind = behind_first x more here.behind;
        whole = ap (λ (l : List Standing). ranked_all (standings_of more key uuid) l) so ∙ one_by_one x more ranks ∙ here.whole;
      }

  -- where the next one is of another key or remote, all came before it
  pub ended : (notes rest more : List Note) (x : Note) (ranks : List Standing) → AreRanking notes rest ranks → rest ≡ x ∷ more
      → is_at key uuid x ≡ false → ranks ≡ in_rank (standings_of notes key uuid)
  ended notes rest more x ranks r is off =
      let here : AreRanking notes (x ∷ more) ranks = subst (λ (l : List Note). AreRanking notes l ranks) is r in
      let p = and_parts (list_all (is_before x) more) (in_order more) here.behind.order in
      let low = and_parts (not (q x)) (list_all (λ z. not (q z)) more) here.behind.none_before in
      let none : filter (is_current key uuid) (x ∷ more) ≡ [] = skip x more (off_current x off) ∙ none_left x more (not-true (q x) low.0) off p.0 in
      sym (ap (λ (l : List Note). ranked_all (map standing_of l) ranks) none) ∙ here.whole
