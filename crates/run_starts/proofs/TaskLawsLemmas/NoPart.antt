-- A get that had no part till its last layout found none.
use Rattle.std.proofs.Common.{◌≡◌, ◌∙◌, ◌⊎◌, inl, inr, ℕ, zero, suc, ◌+◌, ◌==◌, Bool, true, false, List, [], ◌∷◌, ◌++◌, length, take, refl, sym, ap, subst, arith, length-append}
use Rattle.std.specs.Prelude.{◌||◌, cond, if◌then◌else◌, not, filter, bytes_eq, Option, Some, None, option_map, Result, Ok, Err}
use Rattle.std.specs.List.{list_all, filter_map, cons_option}
use Rattle.std.proofs.lemmas.Bool.{and_from, and_parts, or_right, eq-eqb as eq_test}
use Rattle.ann_key.specs.Keys.{Parts, key_reading}
use Rattle.ann_outside.specs.Files.{Files, content}
use Rattle.ann_outside.specs.Played.{Does, Played}
use Rattle.ann_outside.proofs.PlayLaws.{played_parts}
use Rattle.ann_outside.specs.declared.file_desk.DeskError.TheVariants.{Failed, Missing, NoMemory}
use Rattle.ann_outside.specs.declared.file_desk.Call.{Call}
use Rattle.ann_outside.specs.declared.file_desk.Call.TheVariants.{Size, ReadAt, Create, Append, Cut, Rename, Remove}
use Rattle.task_model.specs.Names.{part_of}
use Rattle.task_model.specs.Stops.{call_stop}
use Rattle.task_model.specs.Reads.{length_or_none}
use Rattle.task_model.specs.Gets.{begins, is_plain_last, lengths_at_begin, since_begin}
use Rattle.task_model.specs.RunLaws.{sizes_got}
use Rattle.task_run.proofs.GetLemmas.LastCalls.{Last, last_of, after_last-at}
use Rattle.run_starts.specs.TaskLaws.FilesKept.{fills, NoPartIsAfresh}
use Rattle.run_starts.proofs.TaskLawsLemmas.FileHolds.{GoOn, go_parts, not_name}
use Rattle.run_starts.proofs.TaskLawsLemmas.GotFiles.{got_goes_on}
use Rattle.ann_key.proofs.Booleans.{false_is_true as apart}
use Rattle.ann_key.proofs.Lists.{equal_bytes as is_name}

-- the file is missing or empty
abbrev IsEmpty : List ℕ → Files → Type 0
IsEmpty name files = (content name files ≡ None) ⊎ (content name files ≡ Some [])

empty_stay : (name : List ℕ) (b c : Files) → content name c ≡ content name b → IsEmpty name b → IsEmpty name c
empty_stay name b c stay (inl e) = inl (stay ∙ e)
empty_stay name b c stay (inr e) = inr (stay ∙ e)

abbrev is_zero : Option ℕ → Bool
is_zero None = true
is_zero (Some n) = n == 0

-- the file stays so, and a length that the call found of it is 0
record Stays (name : List ℕ) (call : Call) (new : Files) : Type 0 where
  length_is : is_zero (length_or_none name call) ≡ true
  empty : IsEmpty name new

module _ (name : List ℕ) (b c : Files) (k : IsEmpty name b) where
  made : (other : List ℕ) → content other c ≡ Some [] → ((z : List ℕ) → (z ≡ other → ⊥) → content z c ≡ content z b) → IsEmpty name c
  made other is others = by_test (bytes_eq other name) refl
    where
      by_test : (t : Bool) → bytes_eq other name ≡ t → IsEmpty name c
      by_test true e = inr (ap (λ (z : List ℕ). content z c) (sym (is_name other name e)) ∙ is)
      by_test false e = empty_stay name b c (others name (not_name other name e)) k

  shortened : (size : ℕ) (o : Option (List ℕ)) → (o ≡ None) ⊎ (o ≡ Some []) → (option_map (take size) o ≡ None) ⊎ (option_map (take size) o ≡ Some [])
  shortened size o (inl e) = inl (ap (option_map (take size)) e)
  shortened size o (inr e) = inr (ap (option_map (take size)) e ∙ ap (λ (z : List ℕ). Some z) (none size))
    where
      none : (n : ℕ) → take {A = ℕ} n [] ≡ []
      none zero = refl
      none (suc n) = refl

  cut : (other : List ℕ) (size : ℕ) → content other c ≡ option_map (take size) (content other b) → ((z : List ℕ) → (z ≡ other → ⊥) → content z c ≡ content z b) → IsEmpty name c
  cut other size is others = by_test (bytes_eq other name) refl
    where
      by_test : (t : Bool) → bytes_eq other name ≡ t → IsEmpty name c
      by_test true e =
          let n : other ≡ name = is_name other name e in
          let P : List ℕ → Type 0 = λ z. content z c ≡ option_map (take size) (content z b) in
          let Q : Option (List ℕ) → Type 0 = λ o. (o ≡ None) ⊎ (o ≡ Some []) in
          subst Q (sym (subst P n is)) (shortened size (content name b) k)
      by_test false e = empty_stay name b c (others name (not_name other name e)) k

  gone : (other : List ℕ) → content other c ≡ None → ((z : List ℕ) → (z ≡ other → ⊥) → content z c ≡ content z b) → IsEmpty name c
  gone other is others = by_test (bytes_eq other name) refl
    where
      by_test : (t : Bool) → bytes_eq other name ≡ t → IsEmpty name c
      by_test true e = inl (ap (λ (z : List ℕ). content z c) (sym (is_name other name e)) ∙ is)
      by_test false e = empty_stay name b c (others name (not_name other name e)) k

  moved : (from to : List ℕ) → bytes_eq to name ≡ false → ((from ≡ to → ⊥) → content from c ≡ None) → ((z : List ℕ) → (z ≡ from → ⊥) → (z ≡ to → ⊥) → content z c ≡ content z b) → IsEmpty name c
  moved from to f is others = by_test (bytes_eq from name) refl
    where
      by_test : (t : Bool) → bytes_eq from name ≡ t → IsEmpty name c
      by_test true e = inl (ap (λ (z : List ℕ). content z c) (sym (is_name from name e)) ∙ is (λ s. not_name to name f (sym (is_name from name e) ∙ s)))
      by_test false e = empty_stay name b c (others name (not_name from name e) (not_name to name f)) k

  sized : (other : List ℕ) (n : ℕ) → (content other b ≡ None → ⊥) → ((bytes : List ℕ) → content other b ≡ Some bytes → n ≡ length bytes) → is_zero (length_or_none name (Size other (Ok n))) ≡ true
  sized other n there is = by_test (bytes_eq other name) refl
    where
      by_test : (t : Bool) → bytes_eq other name ≡ t → is_zero (if t then Some n else None) ≡ true
      by_test true e = of_empty k
        where
          same : content other b ≡ content name b
          same = ap (λ (z : List ℕ). content z b) (is_name other name e)

          of_empty : IsEmpty name b → (n == 0) ≡ true
          of_empty (inl g) = absurd (there (same ∙ g))
          of_empty (inr g) = eq_test n 0 (is [] (same ∙ g))
      by_test false e = refl

  unsized : (other : List ℕ) (o : Option ℕ) → is_zero o ≡ true → is_zero (if bytes_eq other name then o else None) ≡ true
  unsized other o z = by_test (bytes_eq other name)
    where
      by_test : (t : Bool) → is_zero (if t then o else None) ≡ true
      by_test true = z
      by_test false = refl

  -- a call that puts no bytes into it, and didn't stop the task
  stays : (call : Call) → call_stop name call ≡ None → fills name call ≡ false → Does call b c → Stays name call c
  stays (Size other (Ok n)) go f d = record { length_is = sized other n d.0.0 d.0.1; empty = empty_stay name b c (d.1 name) k }
  stays (Size other (Err Failed)) go f d = absurd cc
  stays (Size other (Err Missing)) go f d = record { length_is = unsized other (Some 0) refl; empty = empty_stay name b c (d.1 name) k }
  stays (Size other (Err NoMemory)) go f d = record { length_is = unsized other None refl; empty = empty_stay name b c (d.1 name) k }
  stays (ReadAt other from answer) go f d = record { length_is = refl; empty = empty_stay name b c (d.1 name) k }
  stays (Create other (Ok done)) go f d = record { length_is = refl; empty = made other d.0 d.1 }
  stays (Create other (Err NoMemory)) go f d = record { length_is = refl; empty = empty_stay name b c (d name) k }
  stays (Create other (Err Failed)) go f d = absurd cc
  stays (Create other (Err Missing)) go f d = absurd cc
  stays (Append other piece (Ok done)) go f d = record { length_is = refl; empty = empty_stay name b c (d.2 name (not_name other name f)) k }
  stays (Append other piece (Err NoMemory)) go f d = record { length_is = refl; empty = empty_stay name b c (d name) k }
  stays (Append other piece (Err Failed)) go f d = absurd cc
  stays (Append other piece (Err Missing)) go f d = absurd cc
  stays (Cut other size (Ok done)) go f d = record { length_is = refl; empty = cut other size d.1 d.2 }
  stays (Cut other size (Err NoMemory)) go f d = record { length_is = refl; empty = empty_stay name b c (d name) k }
  stays (Cut other size (Err Failed)) go f d = absurd cc
  stays (Cut other size (Err Missing)) go f d = absurd cc
  stays (Rename from to (Ok done)) go f d = record { length_is = refl; empty = moved from to f d.2 d.3 }
  stays (Rename from to (Err NoMemory)) go f d = record { length_is = refl; empty = empty_stay name b c (d name) k }
  stays (Rename from to (Err Failed)) go f d = absurd cc
  stays (Rename from to (Err Missing)) go f d = absurd cc
  stays (Remove other (Ok done)) go f d = record { length_is = refl; empty = gone other d.1 d.2 }
  stays (Remove other (Err NoMemory)) go f d = record { length_is = refl; empty = empty_stay name b c (d name) k }
  stays (Remove other (Err Failed)) go f d = absurd cc
  stays (Remove other (Err Missing)) go f d = record { length_is = refl; empty = empty_stay name b c (d.1 name) k }

-- ---- calls in a row

zeros_cons : (o : Option ℕ) (ns : List ℕ) → is_zero o ≡ true → list_all (λ n. n == 0) ns ≡ true → list_all (λ n. n == 0) (cons_option o ns) ≡ true
zeros_cons None ns z k = k
zeros_cons (Some n) ns z k = and_from (n == 0) (list_all (λ m. m == 0) ns) z k

-- none of them fills the file
first_unfilled : (name : List ℕ) (call : Call) (more : List Call) → filter (fills name) (call ∷ more) ≡ [] → (fills name call ≡ false) × (filter (fills name) more ≡ [])
first_unfilled name call more e = by_test (fills name call) refl e
  where
    by_test : (t : Bool) → fills name call ≡ t → cond t (call ∷ filter (fills name) more) (filter (fills name) more) ≡ [] → (fills name call ≡ false) × (filter (fills name) more ≡ [])
    by_test true f h = absurd cc
    by_test false f h = (f, h)

record AllStay (name : List ℕ) (calls : List Call) (new : Files) : Type 0 where
  lengths : list_all (λ n. n == 0) (filter_map (length_or_none name) calls) ≡ true
  empty : IsEmpty name new

all_stay : (name : List ℕ) (calls : List Call) (old new : Files) → GoOn name calls → filter (fills name) calls ≡ [] → IsEmpty name old → Played calls old new → AllStay name calls new
all_stay name [] old new go none k p = record { lengths = refl; empty = empty_stay name old new (p name) k }
all_stay name (call ∷ more) old new go none k (mid, does, rest) =
    let first = first_unfilled name call more none in
    let one : Stays name call mid = stays name old mid k call go.0 first.0 does in
    let later : AllStay name more new = all_stay name more mid new go.1 first.1 one.empty rest in
    record { lengths = zeros_cons (length_or_none name call) (filter_map (length_or_none name) more) one.length_is later.lengths; empty = later.empty }

-- no length is looked up where nothing begins
unbegun : (name : List ℕ) (calls : List Call) → list_all (λ call. not (begins name call)) calls ≡ true → filter_map (length_or_none name) calls ≡ []
unbegun name [] h = refl
unbegun name (Size other answer ∷ more) h =
    let parts = and_parts (not (bytes_eq other name)) (list_all (λ call. not (begins name call)) more) h in
    by_test (bytes_eq other name) _ parts.0 (unbegun name more parts.1)
  where
    by_test : (t : Bool) (o : Option ℕ) → not t ≡ true → filter_map (length_or_none name) more ≡ [] → cons_option (if t then o else None) (filter_map (length_or_none name) more) ≡ []
    by_test true o e k = apart e
    by_test false o e k = k
unbegun name (ReadAt other from answer ∷ more) h = unbegun name more h
unbegun name (Create other answer ∷ more) h = unbegun name more (and_parts (not (bytes_eq other name)) (list_all (λ call. not (begins name call)) more) h).1
unbegun name (Append other piece answer ∷ more) h = unbegun name more h
unbegun name (Cut other size answer ∷ more) h = unbegun name more h
unbegun name (Rename from to answer ∷ more) h = unbegun name more h
unbegun name (Remove other answer ∷ more) h = unbegun name more h

zeros_both : (name : List ℕ) (xs ys : List Call) → list_all (λ n. n == 0) (filter_map (length_or_none name) xs) ≡ true → list_all (λ n. n == 0) (filter_map (length_or_none name) ys) ≡ true
    → list_all (λ n. n == 0) (filter_map (length_or_none name) (xs ++ ys)) ≡ true
zeros_both name [] ys h k = k
zeros_both name (call ∷ more) ys h k = by_case (length_or_none name call) h (zeros_both name more ys)
  where
    by_case : (o : Option ℕ) → list_all (λ n. n == 0) (cons_option o (filter_map (length_or_none name) more)) ≡ true
        → (list_all (λ n. n == 0) (filter_map (length_or_none name) more) ≡ true → list_all (λ n. n == 0) (filter_map (length_or_none name) ys) ≡ true → list_all (λ n. n == 0) (filter_map (length_or_none name) (more ++ ys)) ≡ true)
        → list_all (λ n. n == 0) (cons_option o (filter_map (length_or_none name) (more ++ ys))) ≡ true
    by_case None g r = r g k
    by_case (Some n) g r = let parts = and_parts (n == 0) (list_all (λ m. m == 0) (filter_map (length_or_none name) more)) g in and_from (n == 0) (list_all (λ m. m == 0) (filter_map (length_or_none name) (more ++ ys))) parts.0 (r parts.1 k)

filter_both : (name : List ℕ) (xs ys : List Call) → filter (fills name) (xs ++ ys) ≡ filter (fills name) xs ++ filter (fills name) ys
filter_both name [] ys = refl
filter_both name (call ∷ more) ys = by_test (fills name call) (filter_both name more ys)
  where
    by_test : (t : Bool) → filter (fills name) (more ++ ys) ≡ filter (fills name) more ++ filter (fills name) ys
        → cond t (call ∷ filter (fills name) (more ++ ys)) (filter (fills name) (more ++ ys)) ≡ cond t (call ∷ filter (fills name) more) (filter (fills name) more) ++ filter (fills name) ys
    by_test true e = ap (λ (l : List Call). call ∷ l) e
    by_test false e = e

nothing_before : {X : Type 0} (xs ys : List X) → xs ++ ys ≡ ys → xs ≡ []
nothing_before [] ys e = refl
nothing_before (x ∷ xs) ys e = let long : length ((x ∷ xs) ++ ys) ≡ length (x ∷ xs) + length ys = length-append (x ∷ xs) ys in let same : length ((x ∷ xs) ++ ys) ≡ length ys = ap length e in absurd (omega arith)

-- ---- the last begin

module _ (file : List ℕ) (calls : List Call) (old new : Files) (go : GoOn (part_of file) calls) (missing : content (part_of file) old ≡ None) (p : Played calls old new)
    (last : filter (fills (part_of file)) calls ≡ filter (fills (part_of file)) (since_begin file calls)) where
  found_none : list_all (λ n. n == 0) (lengths_at_begin file calls) ≡ true
  found_none = by_last (last_of (begins (part_of file)) calls)
    where
      by_last : (list_all (λ call. not (begins (part_of file) call)) calls ≡ true) ⊎ Last (begins (part_of file)) calls → list_all (λ n. n == 0) (lengths_at_begin file calls) ≡ true
      by_last (inl none) = ap (list_all (λ n. n == 0)) (unbegun (part_of file) calls none)
      by_last (inr l) =
          subst (λ (cs : List Call). list_all (λ n. n == 0) (filter_map (length_or_none (part_of file)) cs) ≡ true) (sym l.is)
          (zeros_both (part_of file) l.front (l.one ∷ l.rest) till.lengths (zeros_cons (length_or_none (part_of file) l.one) (filter_map (length_or_none (part_of file)) l.rest) one.length_is after))
        where
          since : since_begin file calls ≡ l.rest
          since = ap (since_begin file) l.is ∙ after_last-at (begins (part_of file)) l.front l.one l.rest l.none l.kind

          -- a begin fills nothing
          bare : (call : Call) → begins (part_of file) call ≡ true → fills (part_of file) call ≡ false
          bare (Size other answer) e = refl
          bare (Create other answer) e = refl
          bare (ReadAt other from answer) e = refl
          bare (Append other piece answer) e = apart e
          bare (Cut other size answer) e = refl
          bare (Rename from to answer) e = apart e
          bare (Remove other answer) e = refl

          skip : (call : Call) → fills (part_of file) call ≡ false → filter (fills (part_of file)) (call ∷ l.rest) ≡ filter (fills (part_of file)) l.rest
          skip call e = rw e refl

          unfilled : filter (fills (part_of file)) l.front ≡ []
          unfilled =
              nothing_before (filter (fills (part_of file)) l.front) (filter (fills (part_of file)) l.rest)
              (ap (λ (ys : List Call). filter (fills (part_of file)) l.front ++ ys) (sym (skip l.one (bare l.one l.kind))) ∙ sym (filter_both (part_of file) l.front (l.one ∷ l.rest)) ∙ ap (filter (fills (part_of file))) (sym l.is) ∙ last
              ∙ ap (filter (fills (part_of file))) since)

          goes : GoOn (part_of file) l.front × GoOn (part_of file) (l.one ∷ l.rest)
          goes = go_parts (part_of file) l.front (l.one ∷ l.rest) (subst (GoOn (part_of file)) l.is go)

          halves : (mid : Files) × Played l.front old mid × Played (l.one ∷ l.rest) mid new
          halves = played_parts l.front (l.one ∷ l.rest) old new (subst (λ (cs : List Call). Played cs old new) l.is p)

          till : AllStay (part_of file) l.front halves.0
          till = all_stay (part_of file) l.front old halves.0 goes.0 unfilled (inl missing) halves.1

          one : Stays (part_of file) l.one halves.2.0
          one = stays (part_of file) halves.0 halves.2.0 till.empty l.one goes.1.0 (bare l.one l.kind) halves.2.1

          after : list_all (λ n. n == 0) (filter_map (length_or_none (part_of file)) l.rest) ≡ true
          after = ap (list_all (λ n. n == 0)) (unbegun (part_of file) l.rest l.none)

pub no_part_is_afresh : NoPartIsAfresh
no_part_is_afresh task t setup layouts asked calls noted key old new e r p h =
    or_right (is_plain_last (sizes_got task.work key layouts) asked) (list_all (λ n. n == 0) (lengths_at_begin task.file calls))
    (found_none task.file calls old new (got_goes_on task t setup layouts asked calls noted key e r) h.missing p h.filled_last)
