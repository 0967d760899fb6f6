-- What a desk's files have of one file after calls that were played on them, of which none stopped its task.
use Rattle.std.proofs.Common.{◌≡◌, ◌∙◌, ◌⊎◌, inl, inr, ℕ, zero, suc, ◌+◌, ◌<◌, ◌≤◌, ◌==◌, Bool, true, false, List, [], ◌∷◌, ◌++◌, length, take, drop, refl, sym, ap, subst, arith, append_assoc}
use Rattle.std.specs.Prelude.{◌≢◌, ◌&&◌, ◌||◌, if◌then◌else◌, nat_le, nat_lt, bytes_eq, Option, Some, None, is_none, option_map, unwrap_or, Result, Ok, Err}
use Rattle.std.specs.List.{list_all}
use Rattle.std.proofs.lemmas.Bool.{and_from, and_parts, or_left, eq-eqb as eq_test, le-leb as le_test}
use Rattle.std.proofs.lemmas.Slice.Eq.{bytes_eq-Decides}
use Rattle.ann_outside.specs.Files.{Files, content, AllStay, OthersStay, SizeIs, CreateDoes, AppendDoes, CutDoes, RenameDoes, RemoveDoes}
use Rattle.ann_outside.specs.Played.{BytesAre, Does, Played}
use Rattle.ann_outside.proofs.PlayLaws.{played_parts}
use Rattle.ann_outside.specs.declared.file_desk.DeskError.{DeskError}
use Rattle.ann_outside.specs.declared.file_desk.DeskError.TheVariants.{Failed, Missing, NoMemory}
use Rattle.ann_outside.specs.declared.file_desk.Call.{Call}
use Rattle.ann_outside.specs.declared.file_desk.Call.TheVariants.{Size, ReadAt, Create, Append, Cut, Rename, Remove}
use Rattle.journal_model.specs.declared.answer.Answer.{Answer}
use Rattle.task_model.specs.Reads.{length_found, read_of, held_after, holds, is_read_of, is_found_so, are_found_so, is_renaming, is_last}
use Rattle.task_model.specs.Stops.{call_stop}
use Rattle.ann_key.proofs.Lists.{equal_bytes as is_name}
use Rattle.task_model.proofs.HeldLaws.{holds_more as holds_both}
use Rattle.ann_key.proofs.Booleans.{false_is_true as apart}

-- ---- tests

pub not_name : (a b : List ℕ) → bytes_eq a b ≡ false → b ≡ a → ⊥
not_name a b e is = apart (sym e ∙ (bytes_eq-Decides a b).1 (sym is))

-- ---- what is known

-- What is known of the file is so, where anything is known of it and it is there.
abbrev pub IsKnown : List ℕ → Files → Option (List ℕ) → Type 0
IsKnown name files held = (held ≡ None) ⊎ ((content name files ≡ None) ⊎ (content name files ≡ held))

known_stay : (name : List ℕ) (b c : Files) (held : Option (List ℕ)) → content name c ≡ content name b → IsKnown name b held → IsKnown name c held
known_stay name b c held stay (inl e) = inl e
known_stay name b c held stay (inr (inl e)) = inr (inl (stay ∙ e))
known_stay name b c held stay (inr (inr e)) = inr (inr (stay ∙ e))

-- what a file that is there holds is what is known of it
there_known : (name other held : List ℕ) (b : Files) → other ≡ name → content other b ≢ None → IsKnown name b (Some held) → content other b ≡ Some held
there_known name other held b is there (inl e) = absurd cc
there_known name other held b is there (inr (inl e)) = absurd (there (ap (λ (z : List ℕ). content z b) is ∙ e))
there_known name other held b is there (inr (inr e)) = ap (λ (z : List ℕ). content z b) is ∙ e

-- so is what it holds after the same was done to both
known_map : (name : List ℕ) (b c : Files) (f : List ℕ → List ℕ) (held : Option (List ℕ)) → content name b ≢ None → content name c ≡ option_map f (content name b) → IsKnown name b held → IsKnown name c (option_map f held)
known_map name b c f held there is (inl e) = inl (ap (option_map f) e)
known_map name b c f held there is (inr (inl e)) = absurd (there e)
known_map name b c f held there is (inr (inr e)) = inr (inr (is ∙ ap (option_map f) e))

-- ---- one call

-- what the call found of it is so, and what is known after it
record Stepped (name : List ℕ) (held : Option (List ℕ)) (call : Call) (new : Files) : Type 0 where
  found : is_found_so name held call ≡ true
  known : IsKnown name new (held_after name held call)

pub size_found : (name other : List ℕ) (n : ℕ) (b : Files) (held : Option (List ℕ)) → SizeIs other b (Ok n) → IsKnown name b held → is_found_so name held (Size other (Ok n)) ≡ true
size_found name other n b None s k = refl
size_found name other n b (Some h) s k = by_test (bytes_eq other name) refl
  where
    by_test : (t : Bool) → bytes_eq other name ≡ t → (unwrap_or (option_map (λ m. m == length h) (if t then Some n else None)) true && true) ≡ true
    by_test true e = and_from (n == length h) true (eq_test n (length h) (s.1 h (there_known name other h b (is_name other name e) s.0 k))) refl
    by_test false e = refl

pub size_lost : (name other : List ℕ) (e : DeskError) (held : Option (List ℕ)) → is_found_so name held (Size other (Err e)) ≡ true
size_lost name other e None = refl
size_lost name other e (Some h) = by_test (bytes_eq other name)
  where
    by_test : (t : Bool) → (unwrap_or (option_map (λ (m : ℕ). m == length h) (if t then None else None)) true && true) ≡ true
    by_test true = refl
    by_test false = refl

pub read_found : (name other : List ℕ) (from : ℕ) (read : List ℕ) (b : Files) (held : Option (List ℕ)) → BytesAre other from b (Ok read) → IsKnown name b held → is_found_so name held (ReadAt other from (Ok read)) ≡ true
read_found name other from read b None s k = refl
read_found name other from read b (Some h) s k = by_test (bytes_eq other name) refl
  where
    some : (bytes : List ℕ) → (bytes ≡ [] → length h ≤ from) → (nat_lt 0 (length bytes) || nat_le (length h) from) ≡ true
    some [] end = le_test (length h) from (end refl)
    some (x ∷ more) end = or_left (nat_lt 0 (length (x ∷ more))) (nat_le (length h) from) (le_test 1 (length (x ∷ more)) (omega arith))

    by_test : (t : Bool) → bytes_eq other name ≡ t → unwrap_or (option_map (is_read_of h) (if t then Some (from, read) else None)) true ≡ true
    by_test true e =
        let is = s.1 h (there_known name other h b (is_name other name e) s.0 k) in
        and_from (bytes_eq read (take (length read) (drop from h))) (nat_lt 0 (length read) || nat_le (length h) from) ((bytes_eq-Decides read (take (length read) (drop from h))).1 is.0) (some read is.1)
    by_test false e = refl

pub read_lost : (name other : List ℕ) (from : ℕ) (e : DeskError) (held : Option (List ℕ)) → is_found_so name held (ReadAt other from (Err e)) ≡ true
read_lost name other from e None = refl
read_lost name other from e (Some h) = by_test (bytes_eq other name)
  where
    by_test : (t : Bool) → unwrap_or (option_map (is_read_of h) (if t then None else None)) true ≡ true
    by_test true = refl
    by_test false = refl

-- nothing is found by a call that asks nothing
pub nothing_found : (name : List ℕ) (held : Option (List ℕ)) (call : Call) → length_found name call ≡ None → read_of name call ≡ None → is_found_so name held call ≡ true
nothing_found name None call e f = refl
nothing_found name (Some h) call e f =
    subst (λ (x : Option ℕ). (unwrap_or (option_map (λ n. n == length h) x) true && unwrap_or (option_map (is_read_of h) (read_of name call)) true) ≡ true) (sym e)
    (subst (λ (x : Option (ℕ × List ℕ)). unwrap_or (option_map (is_read_of h) x) true ≡ true) (sym f) refl)

module _ (name : List ℕ) (b c : Files) (held : Option (List ℕ)) (k : IsKnown name b held) where
  made : (other : List ℕ) → CreateDoes other (Ok tt) b c → IsKnown name c (if bytes_eq other name then Some [] else held)
  made other h = by_test (bytes_eq other name) refl
    where
      by_test : (t : Bool) → bytes_eq other name ≡ t → IsKnown name c (if t then Some [] else held)
      by_test true e = inr (inr (ap (λ (z : List ℕ). content z c) (sym (is_name other name e)) ∙ h.0))
      by_test false e = known_stay name b c held (h.1 name (not_name other name e)) k

  -- the file was changed by what is known of it too, or another was
  changed : (other : List ℕ) (f : List ℕ → List ℕ) → content other b ≢ None → content other c ≡ option_map f (content other b) → OthersStay (λ x. x ≡ other) b c
      → IsKnown name c (if bytes_eq other name then option_map f held else held)
  changed other f there is others = by_test (bytes_eq other name) refl
    where
      by_test : (t : Bool) → bytes_eq other name ≡ t → IsKnown name c (if t then option_map f held else held)
      by_test true e =
          let n : other ≡ name = is_name other name e in
          let P : List ℕ → Type 0 = λ z. content z b ≢ None in
          let Q : List ℕ → Type 0 = λ z. content z c ≡ option_map f (content z b) in
          known_map name b c f held (subst P n there) (subst Q n is) k
      by_test false e = known_stay name b c held (others name (not_name other name e)) k

  renamed : (from to : List ℕ) → RenameDoes from to (Ok tt) b c → IsKnown name c (if bytes_eq to name then None else held)
  renamed from to h = by_to (bytes_eq to name) refl
    where
      by_to : (t : Bool) → bytes_eq to name ≡ t → IsKnown name c (if t then None else held)
      by_to true e = inl refl
      by_to false e = by_from (bytes_eq from name) refl
        where
          by_from : (t : Bool) → bytes_eq from name ≡ t → IsKnown name c held
          by_from true f =
              let n : from ≡ name = is_name from name f in
              inr (inl (ap (λ (z : List ℕ). content z c) (sym n) ∙ h.2 (λ same. not_name to name e (sym n ∙ same))))
          by_from false f = known_stay name b c held (h.3 name (not_name from name f) (not_name to name e)) k

  removed : (other : List ℕ) → RemoveDoes other (Ok tt) b c → IsKnown name c held
  removed other h = by_test (bytes_eq other name) refl
    where
      by_test : (t : Bool) → bytes_eq other name ≡ t → IsKnown name c held
      by_test true e = inr (inl (ap (λ (z : List ℕ). content z c) (sym (is_name other name e)) ∙ h.1))
      by_test false e = known_stay name b c held (h.2 name (not_name other name e)) k

  stays : AllStay b c → IsKnown name c held
  stays all = known_stay name b c held (all name) k

  -- a call that didn't stop the task
  step : (part : List ℕ) (call : Call) → call_stop part call ≡ None → Does call b c → Stepped name held call c
  step part (Size other (Ok n)) go d = record { found = size_found name other n b held d.0 k; known = stays d.1 }
  step part (Size other (Err e)) go d = record { found = size_lost name other e held; known = stays d.1 }
  step part (ReadAt other from (Ok read)) go d = record { found = read_found name other from read b held d.0 k; known = stays d.1 }
  step part (ReadAt other from (Err e)) go d = record { found = read_lost name other from e held; known = stays d.1 }
  step part (Create other (Ok done)) go d = record { found = nothing_found name held (Create other (Ok done)) refl refl; known = made other d }
  step part (Create other (Err NoMemory)) go d = record { found = nothing_found name held (Create other (Err NoMemory)) refl refl; known = stays d }
  step part (Create other (Err Failed)) go d = absurd cc
  step part (Create other (Err Missing)) go d = absurd cc
  step part (Append other piece (Ok done)) go d = record {
    found = nothing_found name held (Append other piece (Ok done)) refl refl;
    known = changed other (λ (bytes : List ℕ). bytes ++ piece) d.0 d.1 d.2;
  }
  step part (Append other piece (Err NoMemory)) go d = record { found = nothing_found name held (Append other piece (Err NoMemory)) refl refl; known = stays d }
  step part (Append other piece (Err Failed)) go d = absurd cc
  step part (Append other piece (Err Missing)) go d = absurd cc
  step part (Cut other size (Ok done)) go d = record { found = nothing_found name held (Cut other size (Ok done)) refl refl; known = changed other (take size) d.0 d.1 d.2 }
  step part (Cut other size (Err NoMemory)) go d = record { found = nothing_found name held (Cut other size (Err NoMemory)) refl refl; known = stays d }
  step part (Cut other size (Err Failed)) go d = absurd cc
  step part (Cut other size (Err Missing)) go d = absurd cc
  step part (Rename from to (Ok done)) go d = record { found = nothing_found name held (Rename from to (Ok done)) refl refl; known = renamed from to d }
  step part (Rename from to (Err NoMemory)) go d = record { found = nothing_found name held (Rename from to (Err NoMemory)) refl refl; known = stays d }
  step part (Rename from to (Err Failed)) go d = absurd cc
  step part (Rename from to (Err Missing)) go d = absurd cc
  step part (Remove other (Ok done)) go d = record { found = nothing_found name held (Remove other (Ok done)) refl refl; known = removed other d }
  step part (Remove other (Err NoMemory)) go d = record { found = nothing_found name held (Remove other (Err NoMemory)) refl refl; known = stays d }
  step part (Remove other (Err Failed)) go d = absurd cc
  step part (Remove other (Err Missing)) go d = record { found = nothing_found name held (Remove other (Err Missing)) refl refl; known = stays d.1 }

-- ---- all calls

-- no call of these stopped the task
abbrev pub GoOn : List ℕ → List Call → Type 0
GoOn part [] = Unit {0}
GoOn part (call ∷ more) = (call_stop part call ≡ None) × GoOn part more

pub go_parts : (part : List ℕ) (xs ys : List Call) → GoOn part (xs ++ ys) → GoOn part xs × GoOn part ys
go_parts part [] ys g = (tt, g)
go_parts part (call ∷ more) ys g = let rest = go_parts part more ys g.1 in ((g.0, rest.0), rest.1)

-- all that they found of the file is so, and what is known of it after them
record Ran (name : List ℕ) (held : Option (List ℕ)) (calls : List Call) (new : Files) : Type 0 where
  found : are_found_so name held calls ≡ true
  known : IsKnown name new (holds name held calls)

ran : (name part : List ℕ) (held : Option (List ℕ)) (calls : List Call) (old new : Files) → GoOn part calls → IsKnown name old held → Played calls old new → Ran name held calls new
ran name part held [] old new go k p = record { found = refl; known = known_stay name old new held (p name) k }
ran name part held (call ∷ more) old new go k (mid, does, rest) =
    let one : Stepped name held call mid = step name old mid held k part call go.0 does in
    let later : Ran name (held_after name held call) more new = ran name part (held_after name held call) more mid new go.1 one.known rest in
    record { found = and_from (is_found_so name held call) (are_found_so name (held_after name held call) more) one.found later.found; known = later.known }

-- what is known of a file before its calls: what it holds, or nothing where it is missing
start : (name : List ℕ) (old : Files) → IsKnown name old (Some (unwrap_or (content name old) []))
start name old = by_content (content name old)
  where
    by_content : (o : Option (List ℕ)) → (Some (unwrap_or o []) ≡ None) ⊎ ((o ≡ None) ⊎ (o ≡ Some (unwrap_or o [])))
    by_content None = inr (inl refl)
    by_content (Some bytes) = inr (inr refl)

pub found_so : (name part : List ℕ) (calls : List Call) (old new : Files) → GoOn part calls → Played calls old new → are_found_so name (Some (unwrap_or (content name old) [])) calls ≡ true
found_so name part calls old new go p = (ran name part (Some (unwrap_or (content name old) [])) calls old new go (start name old) p).found

-- ---- the last call renames it

record EndsRenamed (name to : List ℕ) (calls : List Call) : Type 0 where
  front : List Call
  is : calls ≡ front ++ Rename name to (Ok tt) ∷ []

ends_renamed : (name to : List ℕ) (calls : List Call) → is_last (is_renaming name to) calls ≡ true → EndsRenamed name to calls
ends_renamed name to [] e = apart e
ends_renamed name to (Rename from other (Ok done) ∷ []) e =
    let parts = and_parts (bytes_eq from name) (bytes_eq other to) e in
    record { front = []; is = ap (λ (z : List ℕ). Rename z other (Ok tt) ∷ []) (is_name from name parts.0) ∙ ap (λ (z : List ℕ). Rename name z (Ok tt) ∷ []) (is_name other to parts.1) }
ends_renamed name to (Rename from other (Err x) ∷ []) e = apart e
ends_renamed name to (Size other answer ∷ []) e = apart e
ends_renamed name to (ReadAt other from answer ∷ []) e = apart e
ends_renamed name to (Create other answer ∷ []) e = apart e
ends_renamed name to (Append other piece answer ∷ []) e = apart e
ends_renamed name to (Cut other size answer ∷ []) e = apart e
ends_renamed name to (Remove other answer ∷ []) e = apart e
ends_renamed name to (call ∷ next ∷ more) e =
    let rest : EndsRenamed name to (next ∷ more) = ends_renamed name to (next ∷ more) e in
    record { front = call ∷ rest.front; is = ap (λ (l : List Call). call ∷ l) rest.is }

-- Where the last call renamed it to another, and it held these bytes till then, that other holds them.
pub renamed_holds : (name part to bytes : List ℕ) (calls : List Call) (old new : Files) → GoOn part calls → Played calls old new → is_last (is_renaming name to) calls ≡ true
    → holds name (Some (unwrap_or (content name old) [])) calls ≡ Some bytes → content to new ≡ Some bytes
renamed_holds name part to bytes calls old new go p last is = by_end (ends_renamed name to calls last)
  where
    by_end : EndsRenamed name to calls → content to new ≡ Some bytes
    by_end r = by_parts (played_parts r.front (Rename name to (Ok tt) ∷ []) old new (subst (λ (l : List Call). Played l old new) r.is p))
      where
        till : holds name (Some (unwrap_or (content name old) [])) r.front ≡ Some bytes
        till = by_test (bytes_eq to name) (sym (holds_both name (Some (unwrap_or (content name old) [])) r.front (Rename name to (Ok tt) ∷ [])) ∙ ap (holds name (Some (unwrap_or (content name old) []))) (sym r.is) ∙ is)
          where
            by_test : (t : Bool) → (if t then None else holds name (Some (unwrap_or (content name old) [])) r.front) ≡ Some bytes → holds name (Some (unwrap_or (content name old) [])) r.front ≡ Some bytes
            by_test true e = absurd cc
            by_test false e = e

        by_parts : (mid : Files) × Played r.front old mid × Played (Rename name to (Ok tt) ∷ []) mid new → content to new ≡ Some bytes
        by_parts (mid, before, (end, does, stay)) =
            let known : IsKnown name mid (holds name (Some (unwrap_or (content name old) [])) r.front) =
            (ran name part (Some (unwrap_or (content name old) [])) r.front old mid (go_parts part r.front (Rename name to (Ok tt) ∷ []) (subst (GoOn part) r.is go)).0 (start name old) before).known in
            let k : IsKnown name mid (Some bytes) = subst (IsKnown name mid) till known in
            stay to ∙ does.1 ∙ there_known name name bytes mid refl does.0 k
