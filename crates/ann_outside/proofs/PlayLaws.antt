-- How what was played goes on by a call.
use Rattle.std.proofs.Common.{◌≡◌, ◌∙◌, ℕ, List, [], ◌∷◌, ◌++◌, length, take, drop, refl, sym, ap, subst}
use Rattle.std.specs.Prelude.{Bool, true, false, if◌then◌else◌, None, option_map, Result, Ok, Err}
use Rattle.std.specs.Io.{ReadsAtMost}
use mathlib.Core.Logic.{∥∥₁_map}
use Rattle.ann_outside.specs.Calls.{bytes_read, calls_with, lacks_memory}
use Rattle.ann_outside.specs.Files.{Files, content, OthersStay, AllStay, SizeIs, ReadIs, CreateDoes, CreateNewDoes, AppendDoes, CutDoes, RenameDoes, RemoveDoes}
use Rattle.ann_outside.specs.Played.{BytesAre, Does, Played}
use Rattle.ann_outside.specs.declared.file_desk.DeskError.{DeskError}
use Rattle.ann_outside.specs.declared.file_desk.DeskError.TheVariants.{Failed, Missing, NoMemory}
use Rattle.ann_outside.specs.declared.file_desk.Call.{Call}
use Rattle.ann_outside.specs.declared.file_desk.Call.TheVariants.{Size, ReadAt, Create, Append, Cut, Rename, Remove}

pub all_stay : (a : Files) → AllStay a a
all_stay a other = refl

pub same_stay : (a b : Files) → b ≡ a → AllStay a b
same_stay a b e other = ap (content other) e

-- ---- a call does of files what it does of others with the same contents

module _ (a b c : Files) (stay : AllStay a b) where
  pub all_from : AllStay b c → AllStay a c
  all_from h other = h other ∙ stay other

  others_from : (IsNamed : List ℕ → Type 0) → OthersStay IsNamed b c → OthersStay IsNamed a c
  others_from IsNamed h other d = h other d ∙ stay other

  there_from : (name : List ℕ) → (content name b ≡ None → ⊥) → content name a ≡ None → ⊥
  there_from name h e = h (stay name ∙ e)

  none_from : (name : List ℕ) → content name b ≡ None → content name a ≡ None
  none_from name h = sym (stay name) ∙ h

  size_from : (name : List ℕ) (answer : Result ℕ DeskError) → SizeIs name b answer → SizeIs name a answer
  size_from name (Ok n) h = (there_from name h.0, λ bytes e. h.1 bytes (stay name ∙ e))
  size_from name (Err Missing) h = none_from name h
  size_from name (Err Failed) h = tt
  size_from name (Err NoMemory) h = tt

  bytes_from : (name : List ℕ) (from : ℕ) (answer : Result (List ℕ) DeskError) → BytesAre name from b answer → BytesAre name from a answer
  bytes_from name from (Ok read) h = (there_from name h.0, λ bytes e. h.1 bytes (stay name ∙ e))
  bytes_from name from (Err Missing) h = none_from name h
  bytes_from name from (Err Failed) h = tt
  bytes_from name from (Err NoMemory) h = tt

  create_from : (name : List ℕ) (answer : Result (Unit {0}) DeskError) → CreateDoes name answer b c → CreateDoes name answer a c
  create_from name (Ok done) h = (h.0, others_from (λ other. other ≡ name) h.1)
  create_from name (Err Failed) h = others_from (λ other. other ≡ name) h
  create_from name (Err Missing) h = h
  create_from name (Err NoMemory) h = all_from h

  append_from : (name piece : List ℕ) (answer : Result (Unit {0}) DeskError) → AppendDoes name piece answer b c → AppendDoes name piece answer a c
  append_from name piece (Ok done) h = (there_from name h.0, h.1 ∙ ap (option_map (λ (bytes : List ℕ). bytes ++ piece)) (stay name), others_from (λ other. other ≡ name) h.2)
  append_from name piece (Err Failed) h = (
    (h.0.0, h.0.1 ∙ ap (option_map (λ (bytes : List ℕ). bytes ++ take h.0.0 piece)) (stay name)),
    others_from (λ other. other ≡ name) h.1,
  )
  append_from name piece (Err Missing) h = (none_from name h.0, all_from h.1)
  append_from name piece (Err NoMemory) h = all_from h

  cut_from : (name : List ℕ) (size : ℕ) (answer : Result (Unit {0}) DeskError) → CutDoes name size answer b c → CutDoes name size answer a c
  cut_from name size (Ok done) h = (there_from name h.0, h.1 ∙ ap (option_map (λ (bytes : List ℕ). take size bytes)) (stay name), others_from (λ other. other ≡ name) h.2)
  cut_from name size (Err Failed) h = others_from (λ other. other ≡ name) h
  cut_from name size (Err Missing) h = (none_from name h.0, all_from h.1)
  cut_from name size (Err NoMemory) h = all_from h

  rename_from : (from to : List ℕ) (answer : Result (Unit {0}) DeskError) → RenameDoes from to answer b c → RenameDoes from to answer a c
  rename_from from to (Ok done) h = (there_from from h.0, h.1 ∙ stay from, h.2, λ other d e. h.3 other d e ∙ stay other)
  rename_from from to (Err Failed) h = all_from h
  rename_from from to (Err Missing) h = (none_from from h.0, all_from h.1)
  rename_from from to (Err NoMemory) h = all_from h

  remove_from : (name : List ℕ) (answer : Result (Unit {0}) DeskError) → RemoveDoes name answer b c → RemoveDoes name answer a c
  remove_from name (Ok done) h = (there_from name h.0, h.1, others_from (λ other. other ≡ name) h.2)
  remove_from name (Err Failed) h = all_from h
  remove_from name (Err Missing) h = (none_from name h.0, all_from h.1)
  remove_from name (Err NoMemory) h = all_from h

  pub does_from : (call : Call) → Does call b c → Does call a c
  does_from (Size name answer) h = (size_from name answer h.0, all_from h.1)
  does_from (ReadAt name from answer) h = (bytes_from name from answer h.0, all_from h.1)
  does_from (Create name answer) h = create_from name answer h
  does_from (Append name piece answer) h = append_from name piece answer h
  does_from (Cut name size answer) h = cut_from name size answer h
  does_from (Rename from to answer) h = rename_from from to answer h
  does_from (Remove name answer) h = remove_from name answer h

-- ---- a call that found no memory

without_stays : (call : Call) (b c : Files) → lacks_memory call ≡ true → Does call b c → AllStay b c
without_stays (Size name answer) b c e h = h.1
without_stays (ReadAt name from answer) b c e h = h.1
without_stays (Create name (Err NoMemory)) b c e h = h
without_stays (Create name (Err Failed)) b c e h = absurd cc
without_stays (Create name (Err Missing)) b c e h = absurd cc
without_stays (Create name (Ok done)) b c e h = absurd cc
without_stays (Append name piece (Err NoMemory)) b c e h = h
without_stays (Append name piece (Err Failed)) b c e h = absurd cc
without_stays (Append name piece (Err Missing)) b c e h = absurd cc
without_stays (Append name piece (Ok done)) b c e h = absurd cc
without_stays (Cut name size (Err NoMemory)) b c e h = h
without_stays (Cut name size (Err Failed)) b c e h = absurd cc
without_stays (Cut name size (Err Missing)) b c e h = absurd cc
without_stays (Cut name size (Ok done)) b c e h = absurd cc
without_stays (Rename from to (Err NoMemory)) b c e h = h
without_stays (Rename from to (Err Failed)) b c e h = absurd cc
without_stays (Rename from to (Err Missing)) b c e h = absurd cc
without_stays (Rename from to (Ok done)) b c e h = absurd cc
without_stays (Remove name (Err NoMemory)) b c e h = h
without_stays (Remove name (Err Failed)) b c e h = absurd cc
without_stays (Remove name (Err Missing)) b c e h = absurd cc
without_stays (Remove name (Ok done)) b c e h = absurd cc

-- ---- calls in a row

pub played_nothing : (a : Files) → Played [] a a
played_nothing a = all_stay a

played_then_stay : (calls : List Call) (a b c : Files) → Played calls a b → AllStay b c → Played calls a c
played_then_stay [] a b c h s = all_from a b c h s
played_then_stay (call ∷ more) a b c (mid, does, rest) s = (mid, does, played_then_stay more mid b c rest s)

pub played_then : (calls : List Call) (call : Call) (a b c : Files) → Played calls a b → Does call b c → Played (calls ++ call ∷ []) a c
played_then [] call a b c h d = (c, does_from a b c h call d, all_stay c)
played_then (first ∷ more) call a b c (mid, does, rest) d = (mid, does, played_then more call mid b c rest d)

-- those of two lists, the second after the first
pub played_both : (xs ys : List Call) (a b c : Files) → Played xs a b → Played ys b c → Played (xs ++ ys) a c
played_both [] [] a b c h k = all_from a b c h k
played_both [] (call ∷ more) a b c h (mid, does, rest) = (mid, does_from a b mid h call does, rest)
played_both (call ∷ more) ys a b c (mid, does, rest) k = (mid, does, played_both more ys mid b c rest k)

-- what was played up to the second list, and from there
pub played_parts : (xs ys : List Call) (a c : Files) → Played (xs ++ ys) a c → (b : Files) × Played xs a b × Played ys b c
played_parts [] ys a c h = (a, all_stay a, h)
played_parts (call ∷ more) ys a c (mid, does, rest) =
    let parts = played_parts more ys mid c rest in
    (parts.0, (mid, does, parts.1), parts.2)

-- ---- a desk's call

one_more : (call : Call) (calls : List Call) (a b c : Files) → Does call b c → Played calls a b → Played (calls_with calls call) a c
one_more call calls a b c d h = by_test (lacks_memory call) refl
  where
    by_test : (t : Bool) → lacks_memory call ≡ t → Played (if t then calls else calls ++ call ∷ []) a c
    by_test true e = played_then_stay calls a b c h (without_stays call b c e d)
    by_test false e = played_then calls call a b c h d

-- its log and its files after the call
pub call_played : (call : Call) (calls calls' : List Call) (a b c : Files) → calls' ≡ calls_with calls call → Does call b c → ∥ Played calls a b ∥₁ → ∥ Played calls' a c ∥₁
call_played call calls calls' a b c e d h =
    subst (λ (cs : List Call). ∥ Played cs a c ∥₁) (sym e) (∥∥₁_map h (one_more call calls a b c d))

-- what was looked at alone is as it was
pub same_played : (calls calls' : List Call) (a b c : Files) → calls' ≡ calls → c ≡ b → ∥ Played calls a b ∥₁ → ∥ Played calls' a c ∥₁
same_played calls calls' a b c e f h = subst (λ (cs : List Call). ∥ Played cs a c ∥₁) (sym e) (subst (λ (x : Files). ∥ Played calls a x ∥₁) (sym f) h)

pub blank_played : (calls : List Call) (a b : Files) → calls ≡ [] → a ≡ b → ∥ Played calls a b ∥₁
blank_played calls a b e f = ∣ subst (λ (cs : List Call). Played cs a b) (sym e) (same_stay a b (sym f)) ∣₁

-- a read's bytes, by what it put into its buffer
pub read_played : (name : List ℕ) (from : ℕ) (buffer : List ℕ) (result : Result ℕ DeskError) (b c : Files) → ReadsAtMost result buffer → ReadIs name from buffer b result → c ≡ b
    → Does (ReadAt name from (bytes_read buffer result)) b c
read_played name from buffer (Ok n) b c most told e = (
  (
    told.0,
    λ bytes is.
        let t = told.1 bytes is in
        (t.0 ∙ ap (λ (k : ℕ). take k (drop from bytes)) most.1, λ none. t.1 (most.1 ∙ ap length none)),
  ),
  same_stay b c e,
)
read_played name from buffer (Err Missing) b c most told e = (told, same_stay b c e)
read_played name from buffer (Err Failed) b c most told e = (tt, same_stay b c e)
read_played name from buffer (Err NoMemory) b c most told e = (tt, same_stay b c e)

pub size_played : (name : List ℕ) (result : Result ℕ DeskError) (b c : Files) → SizeIs name b result → c ≡ b → Does (Size name result) b c
size_played name result b c told e = (told, same_stay b c e)

pub create_new_played : (name : List ℕ) (result : Result (Unit {0}) DeskError) (b c : Files) → CreateNewDoes name result b c → Does (Create name result) b c
create_new_played name (Ok done) b c h = h.1
create_new_played name (Err Failed) b c h = λ other d. h other
create_new_played name (Err Missing) b c h = h
create_new_played name (Err NoMemory) b c h = h
