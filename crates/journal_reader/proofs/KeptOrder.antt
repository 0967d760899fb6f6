-- What is written of registers and notes stands in the written order.
use Rattle.std.proofs.Common.{◌≡◌, ℕ, suc, ◌<◌, Bool, true, ◌&&◌, List, [], ◌∷◌, ◌++◌, map, nat_lt, Option, Some, None, refl, sym, ap, ◌∙◌, arith}
use Rattle.std.specs.Prelude.{All}
use Rattle.std.specs.Cmp.{nat_cmp_is}
use Rattle.std.specs.List.{list_all, AllByRecursion}
use Rattle.std.specs.List.Sorted.{IsStrictlySortedBy}
use Rattle.std.specs.Ordering.{nat_cmp, ordering_then, is_lt}
use Rattle.std.specs.declared.cmp.Ordering.{Ordering}
use Rattle.std.specs.declared.cmp.Ordering.TheVariants.{Less, Equal, Greater}
use Rattle.std.proofs.lemmas.Bool.{and_parts, and_from as both_true}
use Rattle.std.proofs.lemmas.Bool.Decides.{nat_tests}
use Rattle.registers.specs.Links.{by_link}
use Rattle.registers.specs.Registers.{RegisterFile, IsKept}
use Rattle.registers.specs.RegLines.{Line, ConfigLine, StateLine, UrlLine, lines_of, later_lines_of, keyed_lines_of, wanted_lines}
use Rattle.registers.specs.Tables.{Texts, by_bytes}
use Rattle.task_text.specs.ChunkLog.ChunkLines.{line_text}
use Rattle.task_text.specs.ChunkLog.NoteBooks.{place_cmp, is_before, in_order}
use Rattle.task_text.specs.declared.chunk_log.note.Note.{Note}
use Rattle.kept_file.specs.Text.KeptFiles.{kept_of, kept_note, cut_note, IsKeepable}
use Rattle.kept_file.specs.Text.KeptLines.{KeptLine, Setting, Expression, State, Url, chunk_in}
use Rattle.kept_file.specs.Text.Orders.{rank, kept_cmp, fields_cmp, logs_cmp}
use Rattle.std.proofs.lemmas.List.{append_assoc as joined, map-append as mapped-append}
use Rattle.ann_key.proofs.Lists.{mapped}
use Rattle.kept_file.proofs.TextLemmas.WrittenLines.{note_chunk}

-- ---- lines in order, one after the other

abbrev pub follows : Option KeptLine → KeptLine → Bool
follows None k = true
follows (Some a) k = is_lt (kept_cmp a k)

abbrev pub chain : Option KeptLine → List KeptLine → Bool
chain before [] = true
chain before (k ∷ ks) = follows before k && chain (Some k) ks

-- what stands before is of a lower rank
abbrev is_low : ℕ → Option KeptLine → Bool
is_low n None = true
is_low n (Some a) = nat_lt (rank a) n

less : (a n : ℕ) → nat_lt a n ≡ true → nat_cmp a n ≡ Less
less a n h = let below : a < n = grind (arith, nat_tests) in sym (nat_cmp_is a n Less below)

low_follows : (before : Option KeptLine) (k : KeptLine) → is_low (rank k) before ≡ true → follows before k ≡ true
low_follows None k h = refl
low_follows (Some a) k h = ap (λ (o : Ordering). is_lt (ordering_then o (fields_cmp a k))) (less (rank a) (rank k) h)

-- ---- lines of one kind, and what follows them

module _ {X : Type 0} (make : X → KeptLine) (c : X → X → Ordering) (own : (x y : X) → kept_cmp (make x) (make y) ≡ c x y) (ks : List KeptLine) (then : (x : X) → chain (Some (make x)) ks ≡ true) where
  inner : (x : X) (xs : List X) → IsStrictlySortedBy c (x ∷ xs) → chain (Some (make x)) (map make xs ++ ks) ≡ true
  unfolding IsStrictlySortedBy
  inner x [] s = then x
  inner x (y ∷ xs) s =
      both_true (is_lt (kept_cmp (make x) (make y))) (chain (Some (make y)) (map make xs ++ ks)) (ap is_lt (own x y ∙ s.0.0)) (inner y xs s.1)

  kind : (before : Option KeptLine) (xs : List X) → IsStrictlySortedBy c xs → ((x : X) → follows before (make x) ≡ true) → chain before ks ≡ true → chain before (map make xs ++ ks) ≡ true
  kind before [] s first none = none
  kind before (x ∷ xs) s first none = both_true (follows before (make x)) (chain (Some (make x)) (map make xs ++ ks)) (first x) (inner x xs s)

-- ---- notes

then_twice : (a b d : Ordering) → ordering_then a (ordering_then b d) ≡ ordering_then (ordering_then a b) d
then_twice Less b d = refl
then_twice Equal b d = refl
then_twice Greater b d = refl

notes_cmp : (a b : Note) → IsKeepable a → IsKeepable b → kept_cmp (kept_note a) (kept_note b) ≡ place_cmp a b
notes_cmp a b p q =
    ap (λ o. ordering_then (by_bytes a.key b.key) (logs_cmp o (chunk_in (line_text b.line)))) (note_chunk a p)
    ∙ ap (λ o. ordering_then (by_bytes a.key b.key) (logs_cmp (Some (cut_note a).line) o)) (note_chunk b q)
    ∙ then_twice (by_bytes a.key b.key) (by_bytes a.line.uuid b.line.uuid) (nat_cmp a.line.chunk b.line.chunk)

notes_inner : (a : Note) (notes : List Note) → IsKeepable a → All IsKeepable notes → in_order (a ∷ notes) ≡ true → chain (Some (kept_note a)) (map kept_note notes) ≡ true
notes_inner a [] p h order = refl
notes_inner a (b ∷ notes) p h order =
    let q : IsKeepable b = h 0 b (omega arith) in
    let parts = and_parts (list_all (is_before a) (b ∷ notes)) (in_order (b ∷ notes)) order in
    let before = (and_parts (is_before a b) (list_all (is_before a) notes) parts.0).0 in
    both_true (is_lt (kept_cmp (kept_note a) (kept_note b))) (chain (Some (kept_note b)) (map kept_note notes)) (ap is_lt (notes_cmp a b p q) ∙ before)
    (notes_inner b notes q (λ k d below. h (suc k) d (omega arith)) parts.1)

notes_chain : (before : Option KeptLine) (notes : List Note) → All IsKeepable notes → in_order notes ≡ true → is_low 4 before ≡ true → chain before (map kept_note notes) ≡ true
notes_chain before [] h order low = refl
notes_chain before (a ∷ notes) h order low =
    let p : IsKeepable a = h 0 a (omega arith) in
    both_true (follows before (kept_note a)) (chain (Some (kept_note a)) (map kept_note notes)) (low_follows before (kept_note a) low)
    (notes_inner a notes p (λ k d below. h (suc k) d (omega arith)) order)

-- ---- registers and notes

abbrev pub kept_all : List Line → List Note → List KeptLine
kept_all lines notes = map kept_of lines ++ map kept_note notes

-- the keys of a table in order
keys_sorted : (es : Texts) → IsStrictlySortedBy by_bytes (map (λ e. e.0) es) → IsStrictlySortedBy (λ x y. by_bytes x.0 y.0) es
unfolding IsStrictlySortedBy
keys_sorted [] s = s
keys_sorted (e ∷ es) s = (go es s.0, keys_sorted es s.1)
  where
    go : (ys : Texts) → AllByRecursion (λ y. by_bytes e.0 y ≡ Less) (map (λ e. e.0) ys) → AllByRecursion (λ y. by_bytes e.0 y.0 ≡ Less) ys
    go [] h = h
    go (y ∷ ys) h = (h.0, go ys h.1)

module _ (r : RegisterFile) (kept : IsKept r) (notes : List Note) (keepable : All IsKeepable notes) (order : in_order notes ≡ true) where
  abbrev noted : List KeptLine
  noted = map kept_note notes

  abbrev urls : List KeptLine
  urls = map (λ e. Url e.0 e.1) r.urls ++ noted

  abbrev states : List KeptLine
  states = map (λ e. State e.0 e.1) r.state ++ urls

  abbrev wanted : List KeptLine
  wanted = map kept_of (wanted_lines r.wanted) ++ states

  noted_chain : (before : Option KeptLine) → is_low 4 before ≡ true → chain before noted ≡ true
  noted_chain before low = notes_chain before notes keepable order low

  urls_chain : (before : Option KeptLine) → is_low 3 before ≡ true → is_low 4 before ≡ true → chain before urls ≡ true
  urls_chain before low lower =
      kind (λ e. Url e.0 e.1) by_link (λ x y. refl) noted (λ x. noted_chain (Some (Url x.0 x.1)) refl) before r.urls kept.urls_rise
      (λ x. low_follows before (Url x.0 x.1) low) (noted_chain before lower)

  states_chain : (before : Option KeptLine) → is_low 2 before ≡ true → is_low 3 before ≡ true → is_low 4 before ≡ true → chain before states ≡ true
  states_chain before low lower lowest =
      kind (λ e. State e.0 e.1) (λ x y. by_bytes x.0 y.0) (λ x y. refl) urls (λ x. urls_chain (Some (State x.0 x.1)) refl refl) before r.state (keys_sorted r.state kept.state_rises)
      (λ x. low_follows before (State x.0 x.1) low) (urls_chain before lower lowest)

  wanted_chain : (w : List ℕ) (before : Option KeptLine) → is_low 1 before ≡ true → is_low 2 before ≡ true → is_low 3 before ≡ true → is_low 4 before ≡ true
      → chain before (map kept_of (wanted_lines w) ++ states) ≡ true
  wanted_chain [] before low lower lower_yet lowest = states_chain before lower lower_yet lowest
  wanted_chain (b ∷ bs) before low lower lower_yet lowest =
      both_true (follows before (Expression (b ∷ bs))) (chain (Some (Expression (b ∷ bs))) states) (low_follows before (Expression (b ∷ bs)) low)
      (states_chain (Some (Expression (b ∷ bs))) refl refl refl)

  all_chain : chain None (map (λ e. Setting e.0 e.1) r.config ++ wanted) ≡ true
  all_chain =
      kind (λ e. Setting e.0 e.1) (λ x y. by_bytes x.0 y.0) (λ x y. refl) wanted (λ x. wanted_chain r.wanted (Some (Setting x.0 x.1)) refl refl refl refl) None r.config
      (keys_sorted r.config kept.config_rises) (λ x. refl) (wanted_chain r.wanted None refl refl refl refl)

  all_are : kept_all (lines_of r) notes ≡ map (λ e. Setting e.0 e.1) r.config ++ wanted
  all_are =
      ap (λ (l : List KeptLine). l ++ noted)
      (mapped-append kept_of (map (λ e. ConfigLine e.0 e.1) r.config) (later_lines_of r)
      ∙ ap (λ (l : List KeptLine). l ++ map kept_of (later_lines_of r)) (mapped kept_of (λ e. ConfigLine e.0 e.1) r.config)
      ∙ ap (λ (l : List KeptLine). map (λ e. Setting e.0 e.1) r.config ++ l)
      (mapped-append kept_of (wanted_lines r.wanted) (keyed_lines_of r)
      ∙ ap (λ (l : List KeptLine). map kept_of (wanted_lines r.wanted) ++ l)
      (mapped-append kept_of (map (λ e. StateLine e.0 e.1) r.state) (map (λ e. UrlLine e.0 e.1) r.urls)
      ∙ ap (λ (l : List KeptLine). l ++ map kept_of (map (λ e. UrlLine e.0 e.1) r.urls)) (mapped kept_of (λ e. StateLine e.0 e.1) r.state)
      ∙ ap (λ (l : List KeptLine). map (λ e. State e.0 e.1) r.state ++ l) (mapped kept_of (λ e. UrlLine e.0 e.1) r.urls))))
      ∙ joined (map (λ e. Setting e.0 e.1) r.config) (map kept_of (wanted_lines r.wanted) ++ (map (λ e. State e.0 e.1) r.state ++ map (λ e. Url e.0 e.1) r.urls)) noted
      ∙ ap (λ (l : List KeptLine). map (λ e. Setting e.0 e.1) r.config ++ l)
      (joined (map kept_of (wanted_lines r.wanted)) (map (λ e. State e.0 e.1) r.state ++ map (λ e. Url e.0 e.1) r.urls) noted
      ∙ ap (λ (l : List KeptLine). map kept_of (wanted_lines r.wanted) ++ l) (joined (map (λ e. State e.0 e.1) r.state) (map (λ e. Url e.0 e.1) r.urls) noted))

  pub kept_chain : chain None (kept_all (lines_of r) notes) ≡ true
  kept_chain = ap (chain None) all_are ∙ all_chain
