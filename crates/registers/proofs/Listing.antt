-- Lines that are made of lent entries.
use Rattle.std.proofs.Common.{◌≡◌, List, [], ◌∷◌, ◌++◌, map, refl, ap, ◌∙◌}

module _ {X Y Z : Type 0} (f : X → Y) (g : Y → Z) where
  twice : (xs : List X) → map (λ x. g (f x)) xs ≡ map g (map f xs)
  twice [] = refl
  twice (x ∷ xs) = ap (λ rest. g (f x) ∷ rest) (twice xs)

  -- before the first entry all lines are left
  pub all_left : (before : List Z) (left all : List X) (entries : List Y) → left ≡ all → map f all ≡ entries → before ++ map (λ x. g (f x)) left ≡ before ++ map g entries
  all_left before left all entries same shown = ap (λ rest. before ++ rest) (ap (map (λ x. g (f x))) same ∙ twice all ∙ ap (map g) shown)
