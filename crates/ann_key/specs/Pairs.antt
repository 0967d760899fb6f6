-- Two lists side by side.
use Rattle.std.specs.Prelude.{List, [], ◌∷◌, ⊤}

-- the relation holds at each place of two lists of one length
abbrev pub Pairwise : {A B : Type 0} → (A → B → Type 0) → List A → List B → Type 0
Pairwise R [] [] = ⊤
Pairwise R [] (y ∷ ys) = ⊥
Pairwise R (x ∷ xs) [] = ⊥
Pairwise R (x ∷ xs) (y ∷ ys) = R x y × Pairwise R xs ys
