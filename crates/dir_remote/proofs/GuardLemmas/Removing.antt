-- What sweeping removes.
use Rattle.std.proofs.Common.{◌≡◌, ℕ, List, [], ◌∷◌, ◌++◌, refl, sym, subst, inl, inr}
use Rattle.std.specs.Prelude.{◌⊎◌, Bool, true, false, Result, Ok, Err}
use Rattle.ann_key.specs.declared.bytes.NoMemory.{NoMemory as WithoutMemory}
use Rattle.dir_remote.specs.Guard.Gates.{under}
use Rattle.dir_remote.specs.Guard.LeftFiles.{is_left}
use Rattle.dir_remote.specs.Guard.Sweeps.{ClearsAll, ClearsBy, ClearsPart, ClearsSome, Lists, RemovesLeft, Skips, SweepsBy, folder_of}
use Rattle.dir_remote.specs.Traces.{Each}
use Rattle.dir_remote.specs.declared.guard.place.Step.{Step}

each_both : (folder : List ℕ) (xs ys : List Step) → Each (RemovesLeft folder) xs → Each (RemovesLeft folder) ys → Each (RemovesLeft folder) (xs ++ ys)
each_both folder [] ys p q = q
each_both folder (x ∷ xs) ys p q = (p.0, each_both folder xs ys p.1 q)

cleared : (folder name : List ℕ) (steps : List Step) (is : Bool) → is_left name ≡ is → ClearsBy is (under folder name) steps → Each (RemovesLeft folder) steps
cleared folder name steps true e (inl met) = subst (λ (s : List Step). Each (RemovesLeft folder) s) (sym met) (tt, tt)
cleared folder name steps true e (inr removed) = subst (λ (s : List Step). Each (RemovesLeft folder) s) (sym removed.1) (tt, ((name, refl, e), tt))
cleared folder name steps false e none = subst (λ (s : List Step). Each (RemovesLeft folder) s) (sym none) tt

all_cleared : (folder : List ℕ) (names : List (List ℕ)) (steps : List Step) → ClearsAll folder names steps → Each (RemovesLeft folder) steps
all_cleared folder [] steps none = subst (λ (s : List Step). Each (RemovesLeft folder) s) (sym none) tt
all_cleared folder (name ∷ names) steps p =
    subst (λ (s : List Step). Each (RemovesLeft folder) s) (sym p.2)
    (each_both folder p.0 p.1 (cleared folder name p.0 (is_left name) refl p.3) (all_cleared folder names p.1 p.4))

part_cleared : (folder name : List ℕ) (steps : List Step) → (steps ≡ []) ⊎ ((is_left name ≡ true) × ClearsPart (under folder name) steps) → Each (RemovesLeft folder) steps
part_cleared folder name steps (inl none) = subst (λ (s : List Step). Each (RemovesLeft folder) s) (sym none) tt
part_cleared folder name steps (inr p) = by p.1
  where
    by : ClearsPart (under folder name) steps → Each (RemovesLeft folder) steps
    by (inl none) = subst (λ (s : List Step). Each (RemovesLeft folder) s) (sym none) tt
    by (inr met) = subst (λ (s : List Step). Each (RemovesLeft folder) s) (sym met) (tt, tt)

some_cleared : (folder : List ℕ) (names : List (List ℕ)) (steps : List Step) → ClearsSome folder names steps → Each (RemovesLeft folder) steps
some_cleared folder names steps s =
    subst (λ (t : List Step). Each (RemovesLeft folder) t) (sym s.steps_are)
    (each_both folder s.cleared s.last (all_cleared folder s.gone s.cleared s.clears) (part_cleared folder s.name s.last s.part))

listed : (folder : List ℕ) (result : Result (Unit {0}) WithoutMemory) (steps : List Step) → Lists folder result steps → Each (RemovesLeft folder) steps
listed folder (Ok done) steps p = subst (λ (s : List Step). Each (RemovesLeft folder) s) (sym p.2) (tt, all_cleared folder p.0 p.1 p.3)
listed folder (Err e) steps (inl none) = subst (λ (s : List Step). Each (RemovesLeft folder) s) (sym none) tt
listed folder (Err e) steps (inr p) = subst (λ (s : List Step). Each (RemovesLeft folder) s) (sym p.2) (tt, some_cleared folder p.0 p.1 p.3)

skipped : (folder : List ℕ) (result : Result (Unit {0}) WithoutMemory) (steps : List Step) → Skips folder result steps → Each (RemovesLeft folder) steps
skipped folder (Ok done) steps p = subst (λ (s : List Step). Each (RemovesLeft folder) s) (sym p.2) (tt, tt)
skipped folder (Err e) steps none = subst (λ (s : List Step). Each (RemovesLeft folder) s) (sym none) tt

pub only_left : (directory : List ℕ) (steps : List Step) (result : Result (Unit {0}) WithoutMemory) → SweepsBy directory steps result → Each (RemovesLeft (folder_of directory)) steps
only_left directory steps result (inl p) = skipped (folder_of directory) result steps p
only_left directory steps result (inr p) =
    subst (λ (s : List Step). Each (RemovesLeft (folder_of directory)) s) (sym p.1) (tt, listed (folder_of directory) result p.0 p.2)
