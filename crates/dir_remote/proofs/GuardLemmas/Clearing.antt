-- How names are gone through, one after the other.
use Rattle.std.proofs.Common.{◌≡◌, ◌≢◌, ◌∙◌, ℕ, ◌<◌, zero, suc, List, [], ◌∷◌, ◌++◌, length, take, drop, get_or, refl, sym, ap, subst, append_assoc, append-nil, inl, inr, arith, drop-cons}
use Rattle.std.specs.Prelude.{Bool, true, false, Option, Result, Ok, Err}
use Rattle.std.proofs.lemmas.List.{take-append-drop}
use Rattle.ann_key.specs.declared.bytes.NoMemory.{NoMemory as WithoutMemory}
use Rattle.dir_remote.specs.Guard.Gates.{under}
use Rattle.dir_remote.specs.Guard.LeftFiles.{is_left}
use Rattle.dir_remote.specs.Guard.Steps.{AddsSome, stepped}
use Rattle.dir_remote.specs.Guard.Sweeps.{ClearsAll, ClearsBy, ClearsRest, ClearsStep, Lists, SweepsBy, folder_of}
use Rattle.dir_remote.specs.declared.guard.place.Seen.{Seen}
use Rattle.dir_remote.specs.declared.guard.place.Seen.TheVariants.{Fits}
use Rattle.dir_remote.specs.declared.guard.place.Step.{Step}
use Rattle.dir_remote.specs.declared.guard.place.Step.TheVariants.{Stood, Listed, Met, Removed}
use Rattle.dir_remote.specs.declared.guard.place.Want.TheVariants.{Way}
use Rattle.dir_remote.specs.declared.guard.place.What.{What}
use Rattle.dir_remote.specs.declared.guard.place.What.TheVariants.{OldFile, Else}
use Rattle.dir_remote.proofs.GuardLemmas.Adding.{adds_more, adds_none}
use Rattle.dir_remote.proofs.GuardLemmas.Passing.{answered}

-- ---- one name

pub clear_not : (folder name : List ℕ) (a : Option (List Step)) → is_left name ≡ false → AddsSome a a (ClearsStep folder name (Ok tt))
clear_not folder name a e = ([], adds_none a, subst (λ (b : Bool). ClearsBy b (under folder name) []) (sym e) refl)

pub clear_else : (folder name path : List ℕ) (a b : Option (List Step)) → is_left name ≡ true → path ≡ under folder name
    → b ≡ stepped a (λ (what : What). Met path what) (answered Else) → AddsSome a b (ClearsStep folder name (Ok tt))
clear_else folder name path a b e is step =
    (Met path Else ∷ [], step, subst (λ (t : Bool). ClearsBy t (under folder name) (Met path Else ∷ [])) (sym e) (inl (ap (λ (p : List ℕ). Met p Else ∷ []) is)))

pub clear_old : (folder name path : List ℕ) (done : Bool) (a b c : Option (List Step)) → is_left name ≡ true → path ≡ under folder name
    → b ≡ stepped a (λ (what : What). Met path what) (answered OldFile) → c ≡ stepped b (λ (d : Bool). Removed path d) (answered done)
    → AddsSome a c (ClearsStep folder name (Ok tt))
clear_old folder name path done a b c e is met removed = (
  Met path OldFile ∷ Removed path done ∷ [],
  adds_more a b c (Met path OldFile ∷ []) (Removed path done ∷ []) met removed,
  subst (λ (t : Bool). ClearsBy t (under folder name) (Met path OldFile ∷ Removed path done ∷ [])) (sym e)
      (inr (done, ap (λ (p : List ℕ). Met p OldFile ∷ Removed p done ∷ []) is)),
)

pub clear_unremoved : (folder name path : List ℕ) (x y : WithoutMemory) (a b c : Option (List Step)) → is_left name ≡ true → path ≡ under folder name
    → b ≡ stepped a (λ (what : What). Met path what) (answered OldFile) → c ≡ stepped b (λ (d : Bool). Removed path d) (Err x)
    → AddsSome a c (ClearsStep folder name (Err y))
clear_unremoved folder name path x y a b c e is met removed =
    (Met path OldFile ∷ [], removed ∙ met, inr (e, inr (ap (λ (p : List ℕ). Met p OldFile ∷ []) is)))

-- ---- all names

pub clears_one_more : (folder : List ℕ) (names : List (List ℕ)) (name : List ℕ) (steps mine : List Step) → ClearsAll folder names steps
    → ClearsBy (is_left name) (under folder name) mine → ClearsAll folder (names ++ name ∷ []) (steps ++ mine)
clears_one_more folder [] name steps mine p q = (mine, [], ap (λ (s : List Step). s ++ mine) p ∙ sym (append-nil mine), q, refl)
clears_one_more folder (other ∷ names) name steps mine p q =
    (p.0, p.1 ++ mine, ap (λ (s : List Step). s ++ mine) p.2 ∙ append_assoc p.0 p.1 mine, p.3, clears_one_more folder names name p.1 mine p.4 q)

take_one_more : (names : List (List ℕ)) (i : ℕ) (name : List ℕ) → i < length names → name ≡ get_or names i name → take (suc i) names ≡ take i names ++ name ∷ []
take_one_more [] i name h e = absurd (omega (arith, h))
take_one_more (g ∷ names) zero name h e = ap (λ (x : List ℕ). x ∷ []) (sym e)
take_one_more (g ∷ names) (suc i) name h e = ap (λ (l : List (List ℕ)). g ∷ l) (take_one_more names i name (omega (arith, h)) e)

around : (names : List (List ℕ)) (i : ℕ) (name : List ℕ) → i < length names → name ≡ get_or names i name → names ≡ take i names ++ name ∷ drop (suc i) names
around names i name h e =
    sym (take-append-drop i names) ∙ ap (λ (l : List (List ℕ)). take i names ++ l) (drop-cons names i name h ∙ ap (λ (g : List ℕ). g ∷ drop (suc i) names) (sym e))

pub clears_goes_on : (folder : List ℕ) (names : List (List ℕ)) (i : ℕ) (name view : List ℕ) (a b c : Option (List Step)) → i < length names → name ≡ get_or names i name → view ≡ name
    → AddsSome a b (λ steps. ClearsAll folder (take i names) steps) → AddsSome b c (ClearsStep folder view (Ok tt)) → AddsSome a c (λ steps. ClearsAll folder (take (suc i) names) steps)
clears_goes_on folder names i name view a b c h e is so step = (
  so.0 ++ step.0,
  adds_more a b c so.0 step.0 so.1 step.1,
  subst (λ (l : List (List ℕ)). ClearsAll folder l (so.0 ++ step.0)) (sym (take_one_more names i name h e))
      (clears_one_more folder (take i names) name so.0 step.0 so.2 (subst (λ (n : List ℕ). ClearsBy (is_left n) (under folder n) step.0) is step.2)),
)

pub clears_short : (folder : List ℕ) (names : List (List ℕ)) (i : ℕ) (name view : List ℕ) (x y : WithoutMemory) (a b c : Option (List Step)) → i < length names → name ≡ get_or names i name → view ≡ name
    → AddsSome a b (λ steps. ClearsAll folder (take i names) steps) → AddsSome b c (ClearsStep folder view (Err x)) → AddsSome a c (ClearsRest folder names (Err y))
clears_short folder names i name view x y a b c h e is so step = (
  so.0 ++ step.0,
  adds_more a b c so.0 step.0 so.1 step.1,
  record {
    gone = take i names;
    name = name;
    left = drop (suc i) names;
    cleared = so.0;
    last = step.0;
    names_are = around names i name h e;
    steps_are = refl;
    clears = so.2;
    part = subst (λ (n : List ℕ). ClearsStep folder n (Err x) step.0) is step.2;
  },
)

-- ---- a folder

pub lists_by : (folder : List ℕ) (names : List (List ℕ)) (result : Result (Unit {0}) WithoutMemory) (a b c : Option (List Step))
    → b ≡ stepped a (λ (n : List (List ℕ)). Listed folder n) (answered names) → AddsSome b c (ClearsRest folder names result) → AddsSome a c (Lists folder result)
lists_by folder names (Ok done) a b c listed so =
    (Listed folder names ∷ so.0, adds_more a b c (Listed folder names ∷ []) so.0 listed so.1, (names, so.0, refl, so.2))
lists_by folder names (Err e) a b c listed so =
    (Listed folder names ∷ so.0, adds_more a b c (Listed folder names ∷ []) so.0 listed so.1, inr (names, so.0, refl, so.2))

pub sweeps_listed : (directory path : List ℕ) (result : Result (Unit {0}) WithoutMemory) (a b c : Option (List Step)) → path ≡ folder_of directory
    → b ≡ stepped a (λ (seen : Seen). Stood Way path seen) (answered Fits) → AddsSome b c (Lists path result) → AddsSome a c (λ steps. SweepsBy directory steps result)
sweeps_listed directory path result a b c is stood so = (
  Stood Way path Fits ∷ so.0,
  adds_more a b c (Stood Way path Fits ∷ []) so.0 stood so.1,
  inr (so.0, ap (λ (p : List ℕ). Stood Way p Fits ∷ so.0) is, subst (λ (p : List ℕ). Lists p result so.0) is so.2),
)

pub sweeps_skips : (directory path : List ℕ) (seen : Seen) (a b : Option (List Step)) → path ≡ folder_of directory → seen ≢ Fits
    → b ≡ stepped a (λ (s : Seen). Stood Way path s) (answered seen) → AddsSome a b (λ steps. SweepsBy directory steps (Ok tt))
sweeps_skips directory path seen a b is other stood =
    (Stood Way path seen ∷ [], stood, inl (seen, other, ap (λ (p : List ℕ). Stood Way p seen ∷ []) is))
