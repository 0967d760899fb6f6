-- Which line is refused, and how lines are read one by one.
use Rattle.std.proofs.Common.{◌≡◌, ℕ, ◌+◌, inl, inr, Bool, true, false, List, [], ◌∷◌, ◌++◌, Option, Some, None, length, refl, sym, ap, subst, ◌∙◌, append_assoc}
use Rattle.std.proofs.lemmas.List.{append-nil}
use Rattle.cli_words.specs.TaskInput.InputLines.{with_rest}
use Rattle.journal_text.specs.Lines.JournalTexts.{Told}
use Rattle.journal_reader.specs.Readings.{Reading, Goes, CannotGo, Follows, IsFault, RefusedAs, after_stamp, is_open, start}
use Rattle.journal_reader.specs.RunTexts.{Begins}
use Rattle.journal_reader.specs.Runs.{Reads}
use Rattle.journal_reader.specs.declared.place.Place.{Place}
use Rattle.journal_reader.specs.declared.place.Place.TheVariants.{Head, Uuid, Name, Gitdir, Stamp, Again, Given, Entries, Over, Refused}
use Rattle.journal_reader.specs.declared.error.JournalError.TheVariants.{BadLine}
use Rattle.journal_reader.proofs.Continuing.{taken_begins, refused_is_in_none}
use Rattle.journal_reader.proofs.Sound.{all_told}
use Rattle.audit_command.specs.Inputs.{Stops, IsRefused}
use Rattle.audit_command.specs.Standing.{StandsBy}
use Rattle.audit_command.specs.Steps.{IsRefusedBehind}

-- ---- a refused line stays the first

stops_on : (before rest more : List (List ℕ)) (past : Bool) → Stops before rest false → Stops before (rest ++ more) past
stops_on before [] more past h = let bad : false ≡ true = h in absurd cc
stops_on before (line ∷ rest) more past h = h

pub refused_on : (lines more : List (List ℕ)) (past : Bool) (number : ℕ) → IsRefused lines false number → IsRefused (lines ++ more) past number
refused_on lines more past number b = record {
  before = b.before;
  rest = b.rest ++ more;
  whole = ap (λ (l : List (List ℕ)). l ++ more) b.whole ∙ append_assoc b.before b.rest more;
  begins = b.begins;
  stops = stops_on b.before b.rest more past b.stops;
  count = b.count;
}

-- the line after lines that begin a text, where a limit is passed in it
pub refused_behind : (lines : List (List ℕ)) (number : ℕ) → Begins lines → number ≡ length lines + 1 → IsRefused lines true number
refused_behind lines number begins count =
    record { before = lines; rest = []; whole = sym (append-nil lines); begins = begins; stops = refl; count = count }

-- a line that can't follow
refused_there : (lines : List (List ℕ)) (line : List ℕ) (number : ℕ) → Begins lines → (Begins (lines ++ line ∷ []) → ⊥) → number ≡ length lines + 1
    → IsRefused (lines ++ line ∷ []) false number
refused_there lines line number begins none count =
    record { before = lines; rest = line ∷ []; whole = refl; begins = begins; stops = none; count = count }

-- ---- readings of lines that were all taken

pub reads_more : (old between new : Reading) (lines : List (List ℕ)) (line : List ℕ) → Reads old lines between → Follows between line new → Reads old (lines ++ line ∷ []) new
reads_more old between new [] line r f = let P : Reading → Type 0 = λ x. Follows x line new in (new, subst P r f, refl)
reads_more old between new (first ∷ lines) line r f = (r.0, r.1, reads_more r.0 between new lines line r.2 f)

after_open : (early : Bool) → is_open (after_stamp early) ≡ true
after_open false = refl
after_open true = refl

goes_open : (at : Place) (t : Told) (line : List ℕ) (place : Place) (new : Told) → Goes at t line place new → is_open place ≡ true
goes_open Head t line place new g = ap is_open g.1
goes_open Uuid t line place new g = ap is_open g.2
goes_open Name t line place new g = ap is_open g.2
goes_open Gitdir t line place new g = ap is_open g.2
goes_open Stamp t line place new g = ap is_open g.2 ∙ after_open t.early
goes_open Again t line place new g = ap is_open g.2
goes_open Given t line place new (inl (inl g)) = ap is_open g.1
goes_open Given t line place new (inl (inr g)) = ap is_open g.0
goes_open Given t line place new (inr g) = ap is_open g.0
goes_open Entries t line place new (inl g) = ap is_open g.1
goes_open Entries t line place new (inr g) = ap is_open g.0
goes_open Over t line place new g = absurd g
goes_open (Refused number) t line place new g = absurd g

reads_on_open : (old new : Reading) (lines : List (List ℕ)) → is_open old.place ≡ true → Reads old lines new → is_open new.place ≡ true
reads_on_open old new [] o r = ap (λ (x : Reading). is_open x.place) r ∙ o
reads_on_open old new (line ∷ lines) o r = reads_on_open r.0 new lines (goes_open old.place old.told line r.0.place r.0.told r.1.goes) r.2

pub reads_open : (new : Reading) (lines : List (List ℕ)) → Reads start lines new → is_open new.place ≡ true
reads_open new lines r = reads_on_open start new lines refl r

refused_says : (p : Place) (old : Reading) (line : List ℕ) (bad : ℕ) (new : Reading) → is_open p ≡ true → RefusedAs p old line bad new → CannotGo p old.told line × (bad ≡ old.taken + 1)
refused_says Head old line bad new o h = (h.0, h.1)
refused_says Uuid old line bad new o h = (h.0, h.1)
refused_says Name old line bad new o h = (h.0, h.1)
refused_says Gitdir old line bad new o h = (h.0, h.1)
refused_says Stamp old line bad new o h = (h.0, h.1)
refused_says Again old line bad new o h = (h.0, h.1)
refused_says Given old line bad new o h = (h.0, h.1)
refused_says Entries old line bad new o h = (h.0, h.1)
refused_says Over old line bad new o h = (h.0, h.1)
refused_says (Refused n) old line bad new o h = let bad : false ≡ true = o in absurd cc

pub pushed_bad : (lines : List (List ℕ)) (line : List ℕ) (old new : Reading) (bad : ℕ) → Reads start lines old → IsFault old line new (BadLine bad) → IsRefused (lines ++ line ∷ []) false bad
pushed_bad lines line old new bad r f =
    let says = refused_says old.place old line bad new (reads_open old lines r) f in
    let t = all_told lines old r in
    refused_there lines line bad (taken_begins lines old r) (refused_is_in_none lines old line r says.0) (says.1 ∙ ap (λ (n : ℕ). n + 1) t.taken)

-- the last line may lack its end
refused_rest : (lines : List (List ℕ)) (rest : List ℕ) (past : Bool) (number : ℕ) → IsRefused lines false number → IsRefused (with_rest lines rest) past number
refused_rest lines [] past number h =
    let P : List (List ℕ) → Type 0 = λ l. IsRefused l past number in subst P (append-nil lines) (refused_on lines [] past number h)
refused_rest lines (b ∷ rest) past number h = refused_on lines ((b ∷ rest) ∷ []) past number h

-- ---- how lines stand

module _ (lines : List (List ℕ)) (rest : List ℕ) (reader : Reading) (held : List ℕ) where
  -- once a line is refused, no byte and no line matters
  pub held_refused : (bad : Option ℕ) (n : ℕ) (more : List ℕ) → bad ≡ Some n → StandsBy lines rest reader held bad → StandsBy lines more reader held bad
  held_refused None n more e h = absurd cc
  held_refused (Some m) n more e h = h

  pub ended_refused : (bad : Option ℕ) (n : ℕ) → bad ≡ Some n → StandsBy lines rest reader held bad → StandsBy (lines ++ rest ∷ []) [] reader held bad
  ended_refused None n e h = absurd cc
  ended_refused (Some m) n e h = refused_on lines (rest ∷ []) false m h

  pub input_refused : (bad : Option ℕ) (n : ℕ) → bad ≡ Some n → StandsBy lines rest reader held bad → StandsBy (with_rest lines rest) [] reader held bad
  input_refused None n e h = absurd cc
  input_refused (Some m) n e h = refused_rest lines rest false m h

  -- one byte more
  pub byte_held : (bad : Option ℕ) (held' : List ℕ) (byte : ℕ) → bad ≡ None → held' ≡ held ++ byte ∷ [] → StandsBy lines rest reader held bad → StandsBy lines (rest ++ byte ∷ []) reader held' bad
  byte_held None held' byte e k h = (h.0, k ∙ ap (λ (b : List ℕ). b ++ byte ∷ []) h.1)
  byte_held (Some m) held' byte e k h = absurd cc

  -- the line was taken, or is refused
  pub line_taken : (bad : Option ℕ) (reader' : Reading) (held' : List ℕ) → bad ≡ None → Follows reader held reader' → held' ≡ [] → StandsBy lines rest reader held bad
      → StandsBy (lines ++ rest ∷ []) [] reader' held' bad
  line_taken None reader' held' e f k h =
      (reads_more start reader reader' lines rest h.0 (let P : List ℕ → Type 0 = λ l. Follows reader l reader' in subst P h.1 f), k)
  line_taken (Some m) reader' held' e f k h = absurd cc

  pub line_refused : (bad : Option ℕ) (reader' : Reading) (n : ℕ) → bad ≡ None → IsFault reader held reader' (BadLine n) → StandsBy lines rest reader held bad → IsRefused (lines ++ rest ∷ []) false n
  line_refused None reader' n e f h = pushed_bad lines rest reader reader' n h.0 (let P : List ℕ → Type 0 = λ l. IsFault reader l reader' (BadLine n) in subst P h.1 f)
  line_refused (Some m) reader' n e f h = absurd cc

  -- nothing is held at the end
  pub nothing_held : (bad : Option ℕ) → bad ≡ None → held ≡ [] → StandsBy lines rest reader held bad → StandsBy (with_rest lines rest) [] reader held bad
  nothing_held None e k h = go rest (sym h.1 ∙ k)
    where
      go : (r : List ℕ) → r ≡ [] → Reads start (with_rest lines r) reader × (held ≡ [])
      go [] f = (h.0, k)
      go (b ∷ r) f = absurd cc
  nothing_held (Some m) e k h = absurd cc

  -- the line that is held is the last
  pub rest_ended : (bad : Option ℕ) (k : ℕ) → bad ≡ None → k ≡ length held → (k ≡ 0 → ⊥) → StandsBy lines rest reader held bad → with_rest lines rest ≡ lines ++ rest ∷ []
  rest_ended None k e l some h = go rest (l ∙ ap (λ (b : List ℕ). length b) h.1)
    where
      go : (r : List ℕ) → k ≡ length r → with_rest lines r ≡ lines ++ r ∷ []
      go [] f = absurd (some f)
      go (b ∷ r) f = refl
  rest_ended (Some m) k e l some h = absurd cc

  -- a limit is passed
  pub refused_here : (bad : Option ℕ) (n : ℕ) → bad ≡ Some n → StandsBy lines rest reader held bad → IsRefusedBehind lines bad
  refused_here None n e h = absurd cc
  refused_here (Some m) n e h = let P : List (List ℕ) → Type 0 = λ l. IsRefused l true m in subst P (append-nil lines) (refused_on lines [] true m h)

  pub refused_next : (bad : Option ℕ) (n : ℕ) → bad ≡ None → n ≡ length lines + 1 → StandsBy lines rest reader held bad → IsRefused lines true n
  refused_next None n e count h = refused_behind lines n (taken_begins lines reader h.0) count
  refused_next (Some m) n e count h = absurd cc

  -- at the end
  pub all_taken : (bad : Option ℕ) → bad ≡ None → StandsBy lines rest reader held bad → Reads start lines reader
  all_taken None e h = h.0
  all_taken (Some m) e h = absurd cc

  pub one_refused : (bad : Option ℕ) (n : ℕ) → bad ≡ Some n → StandsBy lines rest reader held bad → IsRefused lines false n
  one_refused None n e h = absurd cc
  one_refused (Some m) n e h = let same : m ≡ n = cc in subst (IsRefused lines false) same h
